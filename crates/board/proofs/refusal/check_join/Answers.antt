-- `board::refusal::check_join` meets its contract.
use mathlib.Core.Path.{◌≡◌, sym, ◌∙◌}
use mathlib.Core.Bool.{Bool, true, ◌&&◌}
use mathlib.Core.List.{List}
use Prim.Native.Nat.{ℕ}
use Rattle.board_air.specs.Words.{board_ok}
use lib.ListN.{length}
use lib.Seq.{length-take-le}
use lib.Dec.{eqb}
use borrow.Author.Tests.{le-leb, lt-leb}
use Rattle.floats.proofs.Tests.{both}
use Rattle.board_air.specs.Runs.{join_refusal}
use Rattle.board.specs.Calls.{join_answer}
use Rattle.board_air.proofs.Reading.{on_read, length-read}
use Rattle.board.proofs.Boards.{Whole, whole, whole-few}
use native.Mathlib.Omega.{arith}
use Rattle.board.proofs.refusal.check_join.Goals as goal
use Rattle.board.proofs.refusal.check_join.Goals.{After-shared_slice_known-3-1}

-- past refusal 8 the words are a board's
of-known : (words : List ℕ) (r full : Bool) → r ≡ board_ok words → (r && full) ≡ true → Whole words
of-known words r full e h = whole words (sym e ∙ (both r full h).0)

known : (c : After-shared_slice_known-3-1) → Whole c.before.before.before.before.before.before.before.args.board.now
known c = of-known c.args.board.now c.before.before.board_ok.result (eqb (length c.args.row.now) 360) c.before.before.board_ok.ensures c.before.if-not-space.false

pub returns-then-not-all_finite : goal.returns-then-not-all_finite
unfolding join_answer join_refusal
returns-then-not-all_finite c = simp (← c.all_finite.ensures, c.if-not-all_finite.true)

pub returns-then-not-space : goal.returns-then-not-space
unfolding join_answer join_refusal
returns-then-not-space c = simp (← c.all_finite.ensures, c.if-not-all_finite.false, ← c.board_ok.ensures, c.if-not-space.true)

pub bounds-board-0 : goal.bounds-board-0
bounds-board-0 c = omega (arith, (of-known c.args.board.now c.board_ok.result (eqb (length c.args.row.now) 360) c.board_ok.ensures c.if-not-space.false).size)

pub overflow_cast-n : goal.overflow_cast-n
overflow_cast-n c = omega (arith, c.type_inv.board 0)

pub slice_bounds-is_on-end : goal.slice_bounds-is_on-end
slice_bounds-is_on-end c = sym (length-take-le 5777 c.args.board.now (omega (arith, (known (goal.at.slice_bounds-is_on-end c).After-shared_slice_known-3-1).size)))

pub is_on-new-requires : goal.is_on-new-requires
is_on-new-requires c = (length-take-le 5777 c.args.board.now (omega (arith, (known (goal.at.is_on-new-requires c).After-shared_slice_known-3-1).size)), whole-few c.args.board.now (known (goal.at.is_on-new-requires c).After-shared_slice_known-3-1))

pub returns-then-not-may : goal.returns-then-not-may
unfolding join_answer join_refusal
returns-then-not-may c =
    let words = c.args.board.now in
    let Now-on = c.is_on-new.ensures ∙ on_read words c.args.id in
    simp (← c.all_finite.ensures, c.if-not-all_finite.false, ← c.board_ok.ensures, c.if-not-space.false, ← c.is_id.ensures, ← Now-on, c.if-not-may.true)

pub returns-then-n-ge16 : goal.returns-then-n-ge16
unfolding join_answer join_refusal
returns-then-n-ge16 c =
    let words = c.args.board.now in
    let Now-on = c.is_on-new.ensures ∙ on_read words c.args.id in
    simp (← c.all_finite.ensures, c.if-not-all_finite.false, ← c.board_ok.ensures, c.if-not-space.false, ← c.is_id.ensures, ← Now-on, c.if-not-may.false, length-read words, le-leb _ _ c.if-n-ge16.true)

pub returns : goal.returns
unfolding join_answer join_refusal
returns c =
    let words = c.args.board.now in
    let Now-on = c.is_on-new.ensures ∙ on_read words c.args.id in
    simp (← c.all_finite.ensures, c.if-not-all_finite.false, ← c.board_ok.ensures, c.if-not-space.false, ← c.is_id.ensures, ← Now-on, c.if-not-may.false, length-read words, lt-leb _ _ c.if-n-ge16.false)
