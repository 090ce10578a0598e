-- `parts_of`: the bits of a positive number say its parts (`Normalised.antt`).
use Rattle.std.proofs.Common.{◌-◌, ◌<◌, ◌≤◌, T, arith}
use lib.Count.{count_leading_zeros}
use lib.Ieee.{binary32, fits, to_bits}
use lib.Ieee.Bits.{to_bits-lt}
use lib.Ieee.Positive.{positive-finite}
use Rattle.numeric.proofs.Comparisons.{holds}
use Rattle.numeric.proofs.Signs.{finite_number}
use Rattle.numeric.proofs.rounding.Normalised.{leading_ge, moved_le, bits-normal, bits_pos, bits_subnormal}
use Rattle.numeric.proofs.rounding.parts_of.Goals as goal

held : (s : goal.Start) → T (fits binary32 s.args.x)
held s = holds s.well_formed.0.1

pub float_to_bits-bits : goal.float_to_bits-bits
float_to_bits-bits c = finite_number c.args.x (positive-finite c.args.x c.requires)

pub overflow_add-result-then-bits-ge8388608 : goal.overflow_add-result-then-bits-ge8388608
overflow_add-result-then-bits-ge8388608 c = record { fits = omega (arith, to_bits-lt binary32 c.before.args.x (held c.before)) }

pub returns-then-bits-ge8388608 : goal.returns-then-bits-ge8388608
returns-then-bits-ge8388608 c = bits-normal c.before.args.x (held c.before) c.before.requires c.if-bits-ge8388608.true

some : (c : goal.Else-bits-ge8388608) → 0 < to_bits binary32 c.before.args.x
some c = bits_pos c.before.args.x (held c.before) c.before.requires (omega arith)

pub overflow_sub-up : goal.overflow_sub-up
overflow_sub-up c = leading_ge (to_bits binary32 c.before.args.x) (some c) (omega arith)

up_le : (c : goal.Else-bits-ge8388608) → count_leading_zeros 32 (to_bits binary32 c.before.args.x) - 8 ≤ 23
up_le c = moved_le (to_bits binary32 c.before.args.x) (some c) (omega arith)

pub overflow_shl-result : goal.overflow_shl-result
overflow_shl-result c = omega (arith, up_le c)

pub overflow_sub-result : goal.overflow_sub-result
overflow_sub-result c = up_le c

pub returns : goal.returns
returns c = bits_subnormal c.before.args.x (held c.before) c.before.requires (omega arith)
