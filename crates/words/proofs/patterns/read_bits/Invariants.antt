-- `read_bits` reads one float a turn.
use mathlib.Core.Path.{◌≡◌}
use Prim.Native.Nat.{◌≤◌, ◌-◌}
use lib.ListN.{length}
use Rattle.words.specs.Patterns.{floats}
use Rattle.words.proofs.Copies.{copied}
use Rattle.words.proofs.patterns.read_bits.Given as goal

abbrev pub invariant-loop-i : goal.invariant-loop-i
invariant-loop-i l = (l.i ≤ length l.initial.out) × (length l.out ≡ length l.initial.out) × (l.out ≡ copied l.initial.out (floats l.words) l.at l.i)

abbrev pub decreases-loop-i : goal.decreases-loop-i
decreases-loop-i l = length l.initial.out - l.i
