-- `sqrt`, by what its comparisons say of x (`Cases.antt`).
use mathlib.Core.Bool.{◌&&◌}
use mathlib.Core.Path.{◌∙◌}
use lib.Ieee.{of_bits, div}
use Rattle.numeric.proofs.Comparisons.{holds, positive_test}
use Rattle.root.proofs.Cases.{sqrt_of_infinity, sqrt_of_zero, sqrt_of_negative}
use Rattle.root.proofs.sqrt.Goals as goal

pub sqrt_positive-requires : goal.sqrt_positive-requires
unfolding of_bits div
sqrt_positive-requires c = holds (positive_test c.args.x ∙ (λ i. c.if-x.true i && c.if-x-2.true i))

pub returns-then-x : goal.returns-then-x
unfolding of_bits div
returns-then-x c = sqrt_of_infinity c.args.x c.if-x.true c.if-x-2.false

pub returns-then-x-3 : goal.returns-then-x-3
unfolding of_bits
returns-then-x-3 c = sqrt_of_zero c.args.x c.if-x-3.true

pub returns : goal.returns
unfolding of_bits div
returns c = sqrt_of_negative c.args.x c.if-x.false c.if-x-3.false
