-- `board::join`: the air with one more, and beside it what is kept.
use Rattle.std.proofs.Common.{sym}
use Rattle.board.proofs.Changes.{join-left}
use Rattle.board.proofs.join.Goals as goal

pub returns-clause-board_after : goal.returns-clause-board_after
returns-clause-board_after c =
    let a = c.args in
    let parts = c.split_at_mut-air.ensures in
    rw (c.enter.ensures, c.raise.ensures, c.row_bits-bits.ensures, parts.front, parts.back)
    (join-left a.board.now a.id a.row.now (sym c.in_ok-check_join.ensures) (λ i. (c.slice_known-1.given i).fits) (λ i. c.type_inv.row i))
