-- `logarithm::is_positive` meets its contract: its two tests are those of `positive_test`.
use mathlib.Core.Path.{sym, ap, ◌∙◌}
use mathlib.Core.Bool.{Bool, false, ◌&&◌}
use lib.Ieee.{inf, lt, div, of_bits}
use Rattle.numeric.proofs.Comparisons.{positive_test}
use Rattle.logarithm.proofs.is_positive.Goals as goal

pub returns-then-x : goal.returns-then-x
unfolding of_bits div
returns-then-x c = sym (positive_test c.args.x ∙ ap (λ (b : Bool). b && lt c.args.x (inf false)) c.if-x.true)

pub returns-else-x : goal.returns-else-x
unfolding of_bits
returns-else-x c = c.if-x.false ∙ sym (positive_test c.args.x ∙ ap (λ (b : Bool). b && lt c.args.x (inf false)) c.if-x.false)
