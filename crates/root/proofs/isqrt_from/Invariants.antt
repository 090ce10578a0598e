-- `isqrt_from`. The guess x stays at the root of n or above it, so it is the root once its square is at most n.
use Prim.Native.Nat.{suc, ◌*◌, ◌^◌, ◌<◌}
use Rattle.root.proofs.isqrt_from.Given as goal

abbrev pub invariant-loop-x : goal.invariant-loop-x
invariant-loop-x l = (l.x < 2 ^ 32) × (l.n < suc l.x * suc l.x)

abbrev pub decreases-loop-x : goal.decreases-loop-x
decreases-loop-x l = l.x
