-- `booms::boom::active_field` meets its contract.
use Rattle.booms.proofs.boom.active_field.Goals as goal

pub returns : goal.returns
returns c = c.field_of.ensures _
