-- `search::gainorm::sweep` meets its contract.
use Rattle.std.proofs.Common.{◌≡◌, sym, ◌∙◌, arith}
use Rattle.search.proofs.gainorm.Turns.{sweep_turned}
use Rattle.search.proofs.gainorm.sweep.Goals as goal

pub returns-clause-value : goal.returns-clause-value
returns-clause-value c =
    let e : c.loop-i.i ≡ 19 = omega arith in
    (rw (e, c.no_tally.ensures) at c.loop-i.invariant.0) ∙ sym (sweep_turned _ _ _ _)
