-- `sine::sums`. The invariant: what is summed so far and what is left make the whole. The measure is the number of terms left.
use mathlib.Core.Path.{◌≡◌}
use Prim.Native.Nat.{◌+◌}
use Rattle.sine.specs.Sine.{sums}
use Rattle.sine.specs.Inner.{Summable}
use Rattle.sine.proofs.sums.Given as goal

abbrev pub invariant-loop-left : goal.invariant-loop-left
invariant-loop-left l =
    Summable l.t l.j l.left l.p
    × (l.added + (sums l.t l.j l.left l.p).0 ≡ (sums l.t l.start l.n l.first).0)
    × (l.taken + (sums l.t l.j l.left l.p).1 ≡ (sums l.t l.start l.n l.first).1)

abbrev pub decreases-loop-left : goal.decreases-loop-left
decreases-loop-left l = l.left
