-- `find`, a line a turn: none of the lines passed passes the test. Assumes nothing.
use Prim.Native.Nat.{ℕ, ◌+◌, ◌-◌, ◌<◌}
use lib.ListN.{length}
use Rattle.card.specs.Inner.{Failed}
use Rattle.card.proofs.Walk.{Walk}
use Rattle.card.proofs.line.find.Given as goal

abbrev pub invariant-loop-at : goal.invariant-loop-at
invariant-loop-at g l = Walk l.text l.number l.at × ((i : ℕ) → i < l.number → Failed l.text (goal.F-post g l.passes) i)

abbrev pub decreases-loop-at : goal.decreases-loop-at
decreases-loop-at g l = length l.text + 1 - l.at
