-- `board::refusal::check_leave` meets its contract.
use mathlib.Core.Path.{sym, ◌∙◌}
use lib.Seq.{length-take-le}
use Rattle.board_air.specs.Runs.{leave_refusal}
use Rattle.board.specs.Calls.{leave_answer}
use Rattle.board_air.proofs.Reading.{on_read}
use Rattle.board.proofs.Boards.{Whole, whole, whole-few}
use native.Mathlib.Omega.{arith}
use Rattle.board.proofs.refusal.check_leave.Goals as goal
use Rattle.board.proofs.refusal.check_leave.Goals.{Else-not-board_ok}

-- past refusal 8 the words are a board's
known : (c : Else-not-board_ok) → Whole c.before.before.before.args.board.now
known c =
    whole c.before.before.before.args.board.now
    (sym c.before.board_ok.ensures ∙ c.if-not-board_ok.false)

pub returns-then-not-board_ok : goal.returns-then-not-board_ok
unfolding leave_answer leave_refusal
returns-then-not-board_ok c = simp (← c.board_ok.ensures, c.if-not-board_ok.true)

pub bounds-board-0 : goal.bounds-board-0
bounds-board-0 c = omega (arith, (known (goal.at.bounds-board-0 c).Else-not-board_ok).size)

pub overflow_cast-n : goal.overflow_cast-n
overflow_cast-n c = omega (arith, c.type_inv.board 0)

pub slice_bounds-is_on-end : goal.slice_bounds-is_on-end
slice_bounds-is_on-end c = sym (length-take-le 5777 c.args.board.now (omega (arith, (known (goal.at.slice_bounds-is_on-end c).Else-not-board_ok).size)))

pub is_on-requires : goal.is_on-requires
is_on-requires c = (length-take-le 5777 c.args.board.now (omega (arith, (known (goal.at.is_on-requires c).Else-not-board_ok).size)), whole-few c.args.board.now (known (goal.at.is_on-requires c).Else-not-board_ok))

pub returns-then-not-may : goal.returns-then-not-may
unfolding leave_answer leave_refusal
returns-then-not-may c =
    let words = c.args.board.now in
    let Now-on = c.is_on.ensures ∙ on_read words c.args.id in
    simp (← c.board_ok.ensures, c.if-not-board_ok.false, ← c.is_id.ensures, ← Now-on, c.if-not-may.true)

pub returns : goal.returns
unfolding leave_answer leave_refusal
returns c =
    let words = c.args.board.now in
    let Now-on = c.is_on.ensures ∙ on_read words c.args.id in
    simp (← c.board_ok.ensures, c.if-not-board_ok.false, ← c.is_id.ensures, ← Now-on, c.if-not-may.false)
