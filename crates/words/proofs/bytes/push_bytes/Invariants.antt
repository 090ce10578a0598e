-- `push_bytes` writes one byte a turn.
use mathlib.Core.Path.{◌≡◌}
use Prim.Native.Nat.{◌≤◌}
use lib.ListN.{length}
use lib.Seq.{paste}
use Rattle.words.proofs.bytes.push_bytes.Given as goal

abbrev pub invariant-loop-i : goal.invariant-loop-i
invariant-loop-i l = (l.i ≤ length l.s) × (l.out ≡ paste l.initial.out l.at l.s l.i)
