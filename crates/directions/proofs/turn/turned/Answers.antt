-- `turn::turned`: what isn't finite, what is below 256, and what is above, by its units.
use Rattle.std.proofs.Common.{◌≡◌, ℕ, Bool, true, false, ◌%◌, ◌*◌, ◌^◌, ◌≤◌, ◌/◌, T, pos, sym, ap, ◌∙◌, lit<, lit≤, lt_of_lt_of_le, mod-lt}
use lib.Ieee.{Float, binary32, neg, round, rem, mul, div, of_int, of_bits, to_bits, fits}
use lib.Ieee.Scale.{finite}
use Rattle.floats.specs.Literals.{literal}
use Rattle.numeric.specs.Float.{sign_bit}
use Rattle.numeric.proofs.Comparisons.{holds}
use Rattle.numeric.proofs.Signs.{neg-round, finite_number}
use Rattle.directions.specs.Literals.{deg360}
use Rattle.directions.proofs.Remainder.{turned_nan, turned_low, turned_high, left_in, units_are}
use Rattle.directions.proofs.turn.turned.Goals as goal

-- the size of what is left, and so its value by the sign
module _ (x : Float) (f : T (fits binary32 x)) (t : T (finite x)) (h : 135 ≤ to_bits binary32 x % 2 ^ 31 / 2 ^ 23) (y : Float) (e : y ≡ of_int binary32 (pos (left_in x))) where
  size : mul binary32 y (literal 0x38000000) ≡ round binary32 false (left_in x * 2 ^ 134) (2 ^ 149)
  size = ap (λ (z : Float). mul binary32 z (literal 0x38000000)) e ∙ units_are (left_in x) (lt_of_lt_of_le (mod-lt _ (lit< tt)) (lit≤ tt))

  by_sign : (s : Bool) → sign_bit x ≡ s → round binary32 s (left_in x * 2 ^ 134) (2 ^ 149) ≡ rem binary32 x deg360
  by_sign s g = sym (turned_high x f t h ∙ ap (λ (z : Bool). round binary32 z (left_in x * 2 ^ 134) (2 ^ 149)) g)

  below : sign_bit x ≡ true → neg (mul binary32 y (literal 0x38000000)) ≡ rem binary32 x deg360
  below g = ap neg size ∙ sym (neg-round binary32 (left_in x * 2 ^ 134) (2 ^ 149)) ∙ by_sign true g

  above : sign_bit x ≡ false → mul binary32 y (literal 0x38000000) ≡ rem binary32 x deg360
  above g = size ∙ by_sign false g

pub returns-then-not-is_finite : goal.returns-then-not-is_finite
unfolding of_bits div
returns-then-not-is_finite c = turned_nan c.args.v (sym c.is_finite.ensures ∙ c.if-not-is_finite.true)

pub float_to_bits-bits : goal.float_to_bits-bits
float_to_bits-bits c = finite_number c.args.v (holds (sym c.is_finite.ensures ∙ c.if-not-is_finite.false))

pub returns-then-field-lt135 : goal.returns-then-field-lt135
returns-then-field-lt135 c = turned_low c.args.v (holds c.well_formed.0.1) (holds (sym c.is_finite.ensures ∙ c.if-not-is_finite.false)) c.if-field-lt135.true

pub returns-then-is_sign_negative : goal.returns-then-is_sign_negative
returns-then-is_sign_negative c =
    below c.args.v (holds c.well_formed.0.1) (holds (sym c.is_finite.ensures ∙ c.if-not-is_finite.false)) c.if-field-lt135.false
    c.nearest_u32_to_f32-size.result (c.nearest_u32_to_f32-size.ensures ∙ ap (λ (z : ℕ). of_int binary32 (pos z)) c.left_of-left.ensures)
    (sym c.is_sign_negative.ensures ∙ c.if-is_sign_negative.true)

pub returns-else-is_sign_negative : goal.returns-else-is_sign_negative
returns-else-is_sign_negative c =
    above c.args.v (holds c.well_formed.0.1) (holds (sym c.is_finite.ensures ∙ c.if-not-is_finite.false)) c.if-field-lt135.false
    c.nearest_u32_to_f32-size.result (c.nearest_u32_to_f32-size.ensures ∙ ap (λ (z : ℕ). of_int binary32 (pos z)) c.left_of-left.ensures)
    (sym c.is_sign_negative.ensures ∙ c.if-is_sign_negative.false)
