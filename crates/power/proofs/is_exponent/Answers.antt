-- `power::is_exponent` meets its contract: its two tests are those of `is_exponent`.
use mathlib.Core.Path.{sym, ap, ◌∙◌}
use mathlib.Core.Bool.{Bool, false, ◌&&◌}
use lib.Ieee.{fin, le, of_bits}
use lib.IntN.{pos}
use Rattle.power.proofs.is_exponent.Goals as goal

pub returns-then-y : goal.returns-then-y
unfolding of_bits
returns-then-y c = sym (ap (λ (b : Bool). b && le c.args.y (fin false 1 (pos 0))) c.if-y.true)

pub returns-else-y : goal.returns-else-y
unfolding of_bits
returns-else-y c = c.if-y.false ∙ sym (ap (λ (b : Bool). b && le c.args.y (fin false 1 (pos 0))) c.if-y.false)
