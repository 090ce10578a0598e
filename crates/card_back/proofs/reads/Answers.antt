-- `reads`, by what the reader answers. Assumes nothing.
use mathlib.Core.Path.{refl, ◌∙◌}
use Rattle.card_back.proofs.Steps.{reads-accepted, reads_other}
use Rattle.card_back.proofs.reads.Goals as goal

pub returns-in-Ok : goal.returns-in-Ok
returns-in-Ok c = let a = c.args in c.same.ensures ∙ reads-accepted a.text.now _ _ a.bytes.now refl c.in-Ok.ensures

pub returns-in-Err : goal.returns-in-Err
returns-in-Err c = let a = c.args in reads_other a.text.now _ _ a.bytes.now refl _ c.in-Err.ensures
