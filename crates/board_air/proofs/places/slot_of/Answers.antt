-- `slot_of`: the first place that has the id.
use Rattle.std.proofs.Common.{◌≡◌, ◌+◌, ◌*◌, get_or, arith, rules, tests}
use Rattle.std.proofs.lemmas.Iterator.{first_from_Range}
use Rattle.std.proofs.lemmas.List.{get_or_read}
use Rattle.board_air.proofs.Slots.{slot_is}
use Rattle.board_air.proofs.places.slot_of.Goals as goal

pub returns : goal.returns
returns c =
    let a = c.args in
    slot_is a.air.now a.id a.n _
    (first_from_Range _ _ _ _ (λ k. get_or a.air.now (1 + 361 * k) 0 ≡ a.id) (λ k. get_or a.air.now (1 + 361 * k) 0 ≡ a.id → ⊥) c.find.ensures.ran
    (λ x q k. grind (arith, tests, get_or_read))
    (λ x q k. (search rules, grind (arith, tests, get_or_read))))
