-- A float from a to below b, whole numbers with 0 < a, is cut to a whole number from a to below b.
use Rattle.std.proofs.Common.{◌≡◌, ℕ, ◌*◌, ◌/◌, ◌^◌, ◌<◌, ◌≤◌, Bool, true, false, ◌&&◌, ◌||◌, eqb, ltb, pos, refl, le_of_eq, le_of_lt, div-lt_iff_lt-mul, mul-pos, le-div_iff_mul-le, mul-one, arith, ltb-true, ne_eqb, eqb-true}
use mathlib.Core.Bool.{false≢true}
use lib.Ieee.{Float, nan, inf, fin, up, down, lt, le, eq, of_bits, to_unsigned}
use Rattle.floats.specs.Ranges.{from_to}
use Rattle.model.specs.Limits.{in_band}
use Rattle.floats.proofs.Tests.{both}
use lib.Ieee.Fits.{down_pos}

abbrev pub number : ℕ → Float
number a = fin false a (pos 0)

-- a ≤ b, as a comparison has it
at_most : (a b : ℕ) → (ltb a b || (eqb a b && true)) ≡ true → a ≤ b
at_most a b h = go (ltb a b) (eqb a b) (λ t. le_of_lt (ltb-true a b t)) (λ t. le_of_eq (eqb-true a b t)) h
  where
    go : (p q : Bool) → (p ≡ true → a ≤ b) → (q ≡ true → a ≤ b) → (p || (q && true)) ≡ true → a ≤ b
    go true q f g h = f refl
    go false true f g h = g refl
    go false false f g h = absurd (false≢true h)

-- a number above 0 is at most no negative one
above : (a b : ℕ) → 0 < a → (eqb a b && eqb a 0) ≡ true → ⊥
above a b h t = go (eqb a b) (eqb a 0) (ne_eqb a 0 (λ (z : a ≡ 0). omega arith)) t
  where
    go : (p q : Bool) → q ≡ false → (p && q) ≡ true → ⊥
    go true q z t = false≢true (cc)
    go false q z t = false≢true t

pub cut_below : (w b : ℕ) (x : Float) → 0 < b → lt x (number b) ≡ true → to_unsigned w x < b
unfolding lt to_unsigned
cut_below w b nan z h = absurd (false≢true h)
cut_below w b (inf true) z h = z
cut_below w b (inf false) z h = absurd (false≢true h)
cut_below w b (fin true m e) z h = z
cut_below w b (fin false m e) z h =
    let u : m * up e < b * down e = simp mul-one at (ltb-true (m * up e * 1) (b * 1 * down e) h) in
    let q : m * up e / down e < b = (div-lt_iff_lt-mul (down_pos e)).1 u in
    omega arith

pub cut-from : (w a : ℕ) (x : Float) → 0 < a → a < 2 ^ w → le (number a) x ≡ true → a ≤ to_unsigned w x
unfolding le lt eq to_unsigned
cut-from w a nan z f h = absurd (false≢true h)
cut-from w a (inf true) z f h = absurd (false≢true h)
cut-from w a (inf false) z f h = omega arith
cut-from w a (fin true m e) z f h = absurd (above (a * 1 * down e) (m * up e * 1) (mul-pos (mul-pos z (omega arith)) (down_pos e)) h)
cut-from w a (fin false m e) z f h =
    let u : a * down e ≤ m * up e = simp mul-one at (at_most (a * 1 * down e) (m * up e * 1) h) in
    let q : a ≤ m * up e / down e = (le-div_iff_mul-le (down_pos e)).1 u in
    omega arith

-- a frequency in the band has 1 to 30 whole MHz
pub cut_band : (x : Float) → in_band x ≡ true → (1 ≤ to_unsigned 64 x) × (to_unsigned 64 x < 31)
unfolding in_band from_to of_bits
cut_band x h =
    let p = both (le (number 1) x) (lt x (number 31)) h in
    (cut-from 64 1 x (omega arith) (omega arith) p.0, cut_below 64 31 x (omega arith) p.1)
