-- `board::show`: what is kept is what is shown.
use Rattle.board.proofs.Changes.{numbers-shown, ids-shown}
use Rattle.board.proofs.show.Goals as goal

pub returns-clause-numbers_after : goal.returns-clause-numbers_after
returns-clause-numbers_after c =
    let a = c.args in
    rw (c.put_kept.ensures.numbers_after, c.split_at.ensures.back)
    (numbers-shown a.board.now a.numbers.now a.ids.now c.in_ok-check_show.ensures (λ i. (c.type_inv.board i).fits))

pub returns-clause-ids_after : goal.returns-clause-ids_after
returns-clause-ids_after c =
    let a = c.args in
    rw (c.put_kept.ensures.ids_after, c.split_at.ensures.back) (ids-shown a.board.now a.numbers.now a.ids.now c.in_ok-check_show.ensures)
