-- `first_mistake`, a line a turn: nothing is wrong with the lines passed. Assumes nothing.
use mathlib.Core.Path.{◌≡◌}
use Prim.Native.Nat.{◌+◌, ◌-◌}
use lib.ListN.{length}
use Rattle.fields.specs.Least.{least}
use Rattle.card.specs.Card.{card_of}
use Rattle.card.specs.Mistakes.{is_wrong}
use Rattle.card.proofs.Walk.{Walk}
use Rattle.card.proofs.checks.first_mistake.Given as goal

abbrev pub invariant-loop-at : goal.invariant-loop-at
invariant-loop-at l = Walk l.text l.number l.at × (least (is_wrong l.kind (card_of l.text)) l.number ≡ 0)

abbrev pub decreases-loop-at : goal.decreases-loop-at
decreases-loop-at l = length l.text + 1 - l.at
