-- `left_by_a_run`: the parts of `can_be_left` in their order.
use native.Mathlib.Omega.{arith}
use borrow.Author.Tests.{eq-eqb, le-leb}
use Rattle.levels.specs.State.{held, can_be_left}
use Rattle.levels.proofs.Places.{as_slice}
use Rattle.levels.proofs.state.left_by_a_run.Goals as goal

pub returns : goal.returns
unfolding can_be_left
returns c =
    let s = c.args.state.now in
    rw (eq-eqb _ _ c.if-state-ne66.false, le-leb _ _ c.if-held-gt64.false, ← as_slice s (held s) 64 (omega arith), ← c.next_ok.ensures, c.if-not-next_ok.false, ← c.all_levels.ensures, ← c.all_zero.ensures)
