-- `put_bits` writes one word a turn.
use mathlib.Core.Path.{◌≡◌}
use Prim.Native.Nat.{◌≤◌, ◌-◌}
use lib.ListN.{length}
use lib.Ieee.{binary32, to_bits}
use Rattle.words.proofs.Copies.{written}
use Rattle.words.proofs.patterns.put_bits.Given as goal

abbrev pub invariant-loop-i : goal.invariant-loop-i
invariant-loop-i l = (l.i ≤ length l.xs) × (l.out ≡ written (to_bits binary32) l.initial.out l.at l.xs l.i)

abbrev pub decreases-loop-i : goal.decreases-loop-i
decreases-loop-i l = length l.xs - l.i
