-- `board::empty`: zeros with nobody shown.
use Rattle.std.proofs.Common.{rules}
use borrow.Author.Tests.{eq-eqb}
use Rattle.board.specs.Calls.{empty_answer, empty_leaves}
use Rattle.board.proofs.Changes.{emptied}
use Rattle.board.proofs.empty.Goals as goal

pub returns-clause-board_after : goal.returns-clause-board_after
unfolding empty_answer empty_leaves
returns-clause-board_after c =
    let zeros = c.fill.ensures.after (λ y e. search rules) in
    rw (eq-eqb _ _ c.if-board-ne-WORDS.false, zeros, c.split_at_mut-air.ensures.front_len, c.put_nobody.ensures) emptied
