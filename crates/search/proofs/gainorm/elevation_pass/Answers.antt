-- `search::gainorm::elevation_pass` meets its contract.
use Rattle.std.proofs.Common.{◌≡◌, sym, ◌∙◌, arith}
use Rattle.search.proofs.gainorm.Turns.{elevations_turned}
use Rattle.search.proofs.gainorm.elevation_pass.Goals as goal

pub returns-clause-value : goal.returns-clause-value
returns-clause-value c = let e : c.loop-i.i ≡ 90 = omega arith in (rw e at c.loop-i.invariant.0) ∙ sym (elevations_turned _ _ _ _)
