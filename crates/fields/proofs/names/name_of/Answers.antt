-- `name_of`: no other number has a name. Assumes nothing.
use mathlib.Core.Path.{sym}
use native.Mathlib.Omega.{arith}
use Rattle.fields.proofs.Lengths.{nameless}
use Rattle.fields.proofs.names.name_of.Goals as goal

pub returns-in_default : goal.returns-in_default
returns-in_default c = sym (nameless c.args.f (λ h. omega arith))
