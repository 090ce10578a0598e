-- `power::antilogarithm` meets its contract: each step of the split fits and reads back as itself, and to round and then scale is to scale and then round (`Scaling`).
use mathlib.Core.Path.{◌≡◌, sym, ap, ◌∙◌, subst}
use Prim.Native.Nat.{ℕ, ◌*◌, ◌/◌, ◌^◌, ◌≤◌, ◌<◌}
use native.Mathlib.Omega.{arith}
use lib.IntN.{ℤ, pos, negsuc, nat_abs, ◌+ℤ◌, ◌-ℤ◌, ◌*ℤ◌}
use lib.Signed.{mag, shr_z}
use lib.Pow.{pow_pos}
use lib.Ieee.{binary32, mul, of_bits}
use mir.Syntax.{w64}
use mir.Val.{SFits, to_z, of_z}
use mir.Facts.{to_z-of_z}
use Rattle.power.specs.Power.{remainder, exponential, antilogarithm}
use Rattle.numeric.specs.Rounding.{F}
use Rattle.power.specs.Inner.{InRange}
use Rattle.numeric.proofs.Integers.{mag-mul, mag-floor}
use Rattle.power.proofs.Words.{Field, field, remainder_is, remainder-lt, sum-le, sum-from, power_of_field}
use Rattle.power.proofs.Scaling.{round-scaled}
use Rattle.power.proofs.antilogarithm.Goals as goal
use Rattle.power.proofs.antilogarithm.Goals.{After-exponential_sum-sum, Start}

mag-range : (z : ℤ) → InRange z → mag z < 128 * 2 ^ 30
mag-range (pos a) h = h
mag-range (negsuc a) h = omega arith

-- what the machine reads back: e, its whole part, that part in units, the rest, and the exponent's field
abbrev read-e : ℤ → ℤ
read-e E = to_z w64 (of_z w64 E)

abbrev read_whole : ℤ → ℤ
read_whole E = to_z w64 (of_z w64 (shr_z (read-e E) (2 ^ 30)))

abbrev read-units : ℤ → ℤ
read-units E = to_z w64 (of_z w64 (read_whole E *ℤ pos (2 ^ 30)))

abbrev read-rest : ℤ → ℤ
read-rest E = to_z w64 (of_z w64 (read-e E -ℤ read-units E))

abbrev read-field : ℤ → ℤ
read-field E = to_z w64 (of_z w64 (read_whole E +ℤ pos 127))

module _ (s : Start) where
  e-is : read-e s.args.e ≡ s.args.e
  e-is = to_z-of_z s.ranges.e

  whole-lt : mag (shr_z s.args.e (2 ^ 30)) < 128
  whole-lt = mag-floor s.args.e (2 ^ 30) 128 (pow_pos 30) (mag-range s.args.e s.requires)

  whole_is : read_whole s.args.e ≡ shr_z s.args.e (2 ^ 30)
  whole_is = ap (λ (z : ℤ). to_z w64 (of_z w64 (shr_z z (2 ^ 30)))) e-is ∙ to_z-of_z {w = w64} (record { sfits = omega (arith, whole-lt) })

  units-fits : SFits w64 (read_whole s.args.e *ℤ pos (2 ^ 30))
  units-fits = rw whole_is (record { sfits = omega (arith, mag-mul (shr_z s.args.e (2 ^ 30)) (2 ^ 30) 128 (2 ^ 30) (pow_pos 30) (omega arith) whole-lt) })

  units-is : read-units s.args.e ≡ shr_z s.args.e (2 ^ 30) *ℤ pos (2 ^ 30)
  units-is = to_z-of_z units-fits ∙ ap (λ (z : ℤ). z *ℤ pos (2 ^ 30)) whole_is

  difference : read-e s.args.e -ℤ read-units s.args.e ≡ pos (remainder s.args.e)
  difference = (λ i. e-is i -ℤ units-is i) ∙ remainder_is s.args.e

  rest-fits : SFits w64 (read-e s.args.e -ℤ read-units s.args.e)
  rest-fits = subst (SFits w64) (sym difference) (record { sfits = omega (arith, remainder-lt s.args.e) })

  rest-is : read-rest s.args.e ≡ pos (remainder s.args.e)
  rest-is = to_z-of_z rest-fits ∙ difference

  f : ℕ
  f = (field s.args.e s.requires).0

  law : Field (shr_z s.args.e (2 ^ 30)) f
  unfolding f
  law = (field s.args.e s.requires).1

  sum_is : read_whole s.args.e +ℤ pos 127 ≡ pos f
  sum_is = ap (λ (z : ℤ). z +ℤ pos 127) whole_is ∙ law.is

  field_fits : SFits w64 (read_whole s.args.e +ℤ pos 127)
  field_fits = subst (SFits w64) (sym sum_is) (record { sfits = omega (arith, law.to) })

  field_is : read-field s.args.e ≡ pos f
  field_is = to_z-of_z field_fits ∙ sum_is

pub overflow_mul-rest : goal.overflow_mul-rest
overflow_mul-rest c = units-fits (goal.at.overflow_mul-rest c).Start

pub overflow_sub-rest : goal.overflow_sub-rest
overflow_sub-rest c = rest-fits (goal.at.overflow_sub-rest c).Start

pub overflow_cast-rest : goal.overflow_cast-rest
overflow_cast-rest c = rw (rest-is (goal.at.overflow_cast-rest c).Start) (tt, record { fits = omega (arith, remainder-lt c.args.e) })

pub overflow_mul-rest-2 : goal.overflow_mul-rest-2
overflow_mul-rest-2 c = rw (rest-is (goal.at.overflow_mul-rest-2 c).Start) (record { fits = omega (arith, remainder-lt c.args.e) })

pub exponential_sum-sum-requires : goal.exponential_sum-sum-requires
exponential_sum-sum-requires c = rw (rest-is (goal.at.exponential_sum-sum-requires c).Start) (omega (arith, remainder-lt c.args.e))

-- the sum is the definition's, from 2 ^ 30 to 13 * 2 ^ 30
summed : (c : After-exponential_sum-sum) → c.exponential_sum-sum.result ≡ exponential (remainder c.before.args.e)
summed c = c.exponential_sum-sum.ensures ∙ ap (λ (z : ℤ). exponential (nat_abs z)) (rest-is c.before)

module _ (E : ℤ) where
  exponential-le : exponential (remainder E) ≤ 13 * 2 ^ 30
  exponential-le = sum-le (remainder E * 744261118 / 2 ^ 30) 12 (omega (arith, remainder-lt E))

  exponential-from : 2 ^ 30 ≤ exponential (remainder E)
  exponential-from = sum-from (remainder E * 744261118 / 2 ^ 30) 12

pub from_units-requires : goal.from_units-requires
from_units-requires c = rw (summed (goal.at.from_units-requires c).After-exponential_sum-sum) (omega (arith, exponential-le c.args.e))

pub overflow_add-whole : goal.overflow_add-whole
overflow_add-whole c = field_fits (goal.at.overflow_add-whole c).Start

pub overflow_cast-whole : goal.overflow_cast-whole
overflow_cast-whole c = rw (field_is (goal.at.overflow_cast-whole c).Start) (tt, record { fits = omega (arith, (law (goal.at.overflow_cast-whole c).Start).to) })

pub power_of_two-requires : goal.power_of_two-requires
power_of_two-requires c = rw (field_is (goal.at.power_of_two-requires c).Start) ((law (goal.at.power_of_two-requires c).Start).from, (law (goal.at.power_of_two-requires c).Start).to)

pub returns : goal.returns
unfolding antilogarithm F
returns c =
    let s = c in
    let E = s.args.e in
    let w = shr_z E (2 ^ 30) in
    let S = exponential (remainder E) in
    let p = of_bits binary32 (f (goal.at.returns c).Start * 2 ^ 23) in
    (λ i. mul binary32
    ((c.from_units.ensures ∙ ap (λ (n : ℕ). F (pos n)) (summed (goal.at.returns c).After-exponential_sum-sum)) i)
    ((c.power_of_two.ensures ∙ ap (λ (z : ℤ). of_bits binary32 (nat_abs z * 2 ^ 23)) (field_is (goal.at.returns c).Start)) i))
    ∙ round-scaled S (2 ^ 30) p w (pow_pos 30) (exponential-from E) (omega (arith, exponential-le E)) (law (goal.at.returns c).Start).deep (power_of_field w (f (goal.at.returns c).Start) (law (goal.at.returns c).Start))
