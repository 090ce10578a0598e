-- `numeric::rounding::from_units` meets its contract: `halves`, with the two factors 2 ^ -6 and 2 ^ -30.
use Rattle.std.proofs.Common.{◌/◌, ◌%◌, ◌^◌, refl, arith, le→leb}
use lib.Ieee.{in_float, of_bits}
use Rattle.numeric.proofs.rounding.Units.{halves}
use Rattle.numeric.proofs.rounding.from_units.Goals as goal

pub int_to_float-high : goal.int_to_float-high
unfolding in_float
int_to_float-high c = le→leb (c.args.w / 16777216) (2 ^ 24) (omega arith)

pub int_to_float-low : goal.int_to_float-low
unfolding in_float
int_to_float-low c = le→leb (c.args.w % 16777216) (2 ^ 24) (omega arith)

pub returns : goal.returns
unfolding of_bits
returns c = halves c.args.w _ _ c.requires (refl, refl) (refl, refl)
