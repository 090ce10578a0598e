-- `truncated`: a shift of the digits of x (`Truncation.antt`), all of which are cut where it is by 64 or more, and so below 2^-126.
use Rattle.std.proofs.Common.{◌≡◌, ℕ, ◌+◌, ◌-◌, ◌*◌, ◌/◌, ◌%◌, ◌^◌, ◌<◌, ◌≤◌, T, sym, ap, ◌∙◌, le_of_eq, lt_of_lt_of_le, lt_of_le_of_lt, mod-eq_of_lt, arith, pow_mono}
use native.Mathlib.Nat.{div-eq_of_lt}
use lib.Ieee.{Float, binary32, fits, to_bits}
use lib.Ieee.Scale.{finite}
use Rattle.numeric.specs.Rounding.{truncated}
use Rattle.numeric.proofs.Comparisons.{holds}
use Rattle.numeric.proofs.Signs.{finite_number}
use Rattle.numeric.proofs.rounding.Decoded.{decoded, decoded_normal}
use Rattle.numeric.proofs.rounding.Truncation.{shifted_up, shifted_down, shift-lt}
use Rattle.numeric.proofs.rounding.truncated.Goals as goal

-- by the exponent's field, and the digits after the first
module _ (x : Float) (k : ℕ) (f : T (fits binary32 x)) (t : T (finite x)) (few : k ≤ 86) where
  abbrev field : ℕ
  field = to_bits binary32 x % 2 ^ 31 / 2 ^ 23

  abbrev digits : ℕ
  digits = to_bits binary32 x % 2 ^ 31 % 2 ^ 23 + 2 ^ 23

  up_lt : 150 ≤ field + k → truncated k x < 2 ^ 64 → field + k - 150 < 64
  up_lt h w = let s = decoded_normal x f t (omega arith) in omega (arith, shift-lt x k digits (field - 1) f t s (omega arith) (omega arith) w)

  up : 150 ≤ field + k → truncated k x ≡ digits * 2 ^ (field + k - 150)
  up h =
      let e : field - 1 + k - 149 ≡ field + k - 150 = omega arith in
      shifted_up x k digits (field - 1) f t (decoded_normal x f t (omega arith)) (omega arith) ∙ ap (λ (z : ℕ). digits * 2 ^ z) e

  down : field + k < 150 → 150 - (field + k) < 64 → truncated k x ≡ digits / 2 ^ (150 - (field + k))
  down h l =
      let e : 149 - (field - 1 + k) ≡ 150 - (field + k) = omega arith in
      shifted_down x k digits (field - 1) f t (decoded_normal x f t (omega arith)) (omega arith) ∙ ap (λ (z : ℕ). digits / 2 ^ z) e

  out : field + k < 150 → 64 ≤ 150 - (field + k) → truncated k x ≡ 0
  out h l =
      let s = decoded x f t in
      shifted_down x k (to_bits binary32 x % 2 ^ 31 - (field - 1) * 2 ^ 23) (field - 1) f t s (omega arith)
      ∙ div-eq_of_lt (lt_of_lt_of_le s.short (pow_mono {i = 24} {j = 149 - (field - 1 + k)} (omega arith)))

held : (c : goal.Start) → T (fits binary32 c.args.x)
held c = holds c.well_formed.0.1

pub float_to_bits-bits : goal.float_to_bits-bits
float_to_bits-bits c = finite_number c.args.x c.requires.0

pub overflow_shl-result : goal.overflow_shl-result
overflow_shl-result c = let s = c.before in up_lt s.args.x s.args.k (held s) s.requires.0 s.requires.2 c.if-n-ge150.true s.requires.1

pub returns-then-n-ge150 : goal.returns-then-n-ge150
returns-then-n-ge150 c =
    let s = c.before in
    let e = up s.args.x s.args.k (held s) s.requires.0 s.requires.2 c.if-n-ge150.true in
    mod-eq_of_lt (lt_of_le_of_lt (le_of_eq (sym e)) s.requires.1) ∙ sym e

pub returns-then-past-lt64 : goal.returns-then-past-lt64
returns-then-past-lt64 c = let s = c.before.before in sym (down s.args.x s.args.k (held s) s.requires.0 s.requires.2 c.before.if-n-ge150.false c.if-past-lt64.true)

pub returns-else-past-lt64 : goal.returns-else-past-lt64
returns-else-past-lt64 c = let s = c.before.before in sym (out s.args.x s.args.k (held s) s.requires.0 s.requires.2 c.before.if-n-ge150.false c.if-past-lt64.false)
