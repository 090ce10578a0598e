-- `power::is_normal` meets its contract: its two tests are those of `normal`.
use mathlib.Core.Path.{sym, ap, ◌∙◌}
use mathlib.Core.Bool.{Bool, false, ◌&&◌}
use lib.Ieee.{inf, lt, div, of_bits}
use Rattle.power.proofs.is_normal.Goals as goal

pub returns-then-x : goal.returns-then-x
unfolding of_bits div
returns-then-x c = sym (ap (λ (b : Bool). b && lt c.args.x (inf false)) c.if-x.true)

pub returns-else-x : goal.returns-else-x
unfolding of_bits
returns-else-x c = c.if-x.false ∙ sym (ap (λ (b : Bool). b && lt c.args.x (inf false)) c.if-x.false)
