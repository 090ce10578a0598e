-- `sqrt_of` is IEEE 754's squareRoot of each f32 (`sqrt_is`), and nothing else is (`sqrt_only`).
use mathlib.Core.Path.{◌≡◌, refl, sym, ap, ◌∙◌, subst}
use Prim.Native.Nat.{ℕ, zero, suc, ◌+◌, ◌-◌, ◌*◌, ◌/◌, ◌^◌, ◌≤◌, ◌<◌}
use native.Mathlib.Nat.{le_antisymm, add_comm, le_trans, le_of_eq, le_of_lt, lt_of_lt_of_le, lt_of_le_of_lt, lt_trans, lt_of_not-le, zero-lt-suc, one-mul, not-le_of_lt, mul-pos, mul_assoc, mul-le-mul_right, mul-lt-mul_of_pos_right, mul_left_comm, div-mul-le_self, le-div_iff_mul-le, lt-div-mul-add}
use native.Mathlib.Decide.{dec_le}
use native.Mathlib.Omega.{arith}
use mathlib.Core.Bool.{true, false}
use lib.Dec.{T, lit<, lit≤}
use lib.IntN.{ℤ}
use lib.Pow.{pow_pos, pow-add, pow_mono}
use lib.Ieee.{Float, nan, inf, fin, binary32, down, size, round, fits}
use lib.Ieee.Fits.{round-fits, up_pos, down_pos}
use lib.Ieee.Digits.{size-lt, size_reaches}
use lib.Ieee.Scale.{round_val}
use lib.Ieee.Positive.{positive, positive_of_value}
use Rattle.numeric.specs.Rounding.{steps}
use Rattle.root.specs.Root.{root, square, sqrt_of, SquareRoot, IsSqrt}
use Rattle.root.proofs.Between.{Rounded, nearer_than_below, nearer_than_above}
use Rattle.root.proofs.Halves.{half-rounded}
use Rattle.root.proofs.Whole.{root_is, root-lt, root_ge}
use Rattle.numeric.proofs.Steps.{Is, steps_are, on-grid, steps_injective, steps-lt, held_low}

-- s / 2 rounded to a multiple of 2 ^ k
abbrev pub kept : ℕ → ℕ → ℕ
kept s k = (s + 2 ^ k) / (2 * 2 ^ k)

is-rounded : (s k : ℕ) → 2 ^ 24 * 2 ^ k ≤ s → Rounded s k (kept s k)
is-rounded s k lo =
    let p = 2 ^ k in
    let P : 0 < 2 * p = mul-pos (zero-lt-suc 1) (pow_pos k) in
    let a : kept s k * (2 * p) ≤ s + p = div-mul-le_self (s + p) (2 * p) in
    let b : s + p < kept s k * (2 * p) + 2 * p = lt-div-mul-add P in
    let c : kept s k * (2 * p) ≡ 2 * (kept s k * p) = mul_left_comm (kept s k) 2 p in
    record { digits = (le-div_iff_mul-le P).1 (omega arith); least = lo; up = omega arith; down = omega arith }

both : (P : ℕ → ℕ → Type 0) {a b c d : ℕ} → a ≡ c → b ≡ d → P c d → P a b
both P {a} {b} {c} {d} p q h = subst (λ (z : ℕ). P z b) (sym p) (subst (λ (z : ℕ). P c z) (sym q) h)

-- ---- x = (m + 1) * 2 ^ e above 0, with s its root in half steps, cut
module _ (m : ℕ) (e : ℤ) (held : T (fits binary32 (fin false (suc m) e))) where
  abbrev x : Float
  x = fin false (suc m) e

  abbrev s : ℕ
  s = root (square x)

  steps_pos : 0 < steps x
  steps_pos =
      (le-div_iff_mul-le (down_pos e)).1
      (le_trans (le_of_eq (one-mul (down e))) (le_trans (held_low false m e held) (le_trans (le_of_eq (sym (one-mul (2 ^ 149)))) (mul-le-mul_right (2 ^ 149) (mul-pos (zero-lt-suc m) (up_pos e))))))

  s_lt : s < 2 ^ 214
  s_lt = root-lt (2 ^ 214) (square x) (mul-lt-mul_of_pos_right (steps-lt false (suc m) e held) (pow_pos 151))

  s_ge : 2 ^ 75 ≤ s
  s_ge = root_ge (2 ^ 75) (square x) (le_trans (lit≤ tt) (mul-le-mul_right (2 ^ 151) steps_pos))

  -- the steps of the root, where s has 25 digits and k more
  pub sqrt_steps : (k : ℕ) → 2 ^ 24 * 2 ^ k ≤ s → s < 2 ^ 25 * 2 ^ k → Is (sqrt_of x) false (kept s k * 2 ^ k)
  unfolding sqrt_of
  sqrt_steps k lo hi =
      let is = half-rounded s k lo hi in
      let fine : kept s k * 2 ^ k < 2 ^ 277 = lt_of_le_of_lt (small (kept s k * 2 ^ k) (2 ^ k) s (is-rounded s k lo).up lo) (lt_trans s_lt (lit< tt)) in
      subst (λ (z : ℕ). Is (round binary32 false (2 * s + 1) (2 ^ 151)) false z) is
      (round_val binary32 (2 * s + 1) (2 ^ 151) (subst (λ (z : ℕ). z < 2 ^ 277) (sym is) fine))
    where
      small : (a p s : ℕ) → 2 * a ≤ s + p → 2 ^ 24 * p ≤ s → a ≤ s
      small a p s u v = omega arith

  scale : (k : ℕ) × (2 ^ 24 * 2 ^ k ≤ s) × (s < 2 ^ 25 * 2 ^ k)
  scale =
      let z : 75 < size s = lt_of_not-le (λ (g : size s ≤ 75). not-le_of_lt (lt_of_lt_of_le (size-lt s) (pow_mono g)) s_ge) in
      let k = size s - 25 in (
        k,
        le_trans (le_of_eq (sym (pow-add 2 24 k))) (size_reaches s (24 + k) (omega arith)),
        lt_of_lt_of_le (size-lt s) (le_trans (le_of_eq (ap (λ (j : ℕ). 2 ^ j) (whole (size s) z))) (le_of_eq (pow-add 2 25 k))),
      )
    where
      whole : (z : ℕ) → 75 < z → z ≡ 25 + (z - 25)
      whole z h = omega arith

  sqrt_held : T (fits binary32 (sqrt_of x))
  unfolding sqrt_of
  sqrt_held = round-fits binary32 false (2 * s + 1) (2 ^ 151)

  pub sqrt_nearest : SquareRoot x (sqrt_of x)
  sqrt_nearest =
      let k = scale.0 in
      let q = kept s k in
      let n = square x in
      let r : Rounded s k q = is-rounded s k scale.1 in
      let is : Is (sqrt_of x) false (q * 2 ^ k) = sqrt_steps k scale.1 scale.2 in
      let y : steps (sqrt_of x) ≡ q * 2 ^ k = steps_are (sqrt_of x) false (q * 2 ^ k) is in
      let g = on-grid x held in
      let few : n ≡ g.0 * 2 ^ (g.1 + 151) = ap (λ (z : ℕ). z * 2 ^ 151) (steps_are x false (g.0 * 2 ^ g.1) g.2) ∙ mul_assoc g.0 (2 ^ g.1) (2 ^ 151) ∙ ap (λ (z : ℕ). g.0 * z) (sym (pow-add 2 g.1 151)) in
      record {
        held = sqrt_held;
        above_zero = positive_of_value (sqrt_of x) (q * 2 ^ k) (2 ^ 149) is (mul-pos (lt_of_lt_of_le (lit< tt) r.digits) (pow_pos k));
        nearer_than_below = λ m e h l.
            let z = on-grid (fin false m e) h in
            let is-z = steps_are (fin false m e) false (z.0 * 2 ^ z.1) z.2 in
            both (λ (a b : ℕ). (a + b) * (a + b) < n) y is-z
            (nearer_than_below n s k q r z.0 z.1 z.3.0 (root_is n).0 g.0 (g.1 + 151) g.3.0 few (both (λ (a b : ℕ). b < a) (sym y) (sym is-z) l));
        nearer_than_above = λ m e h l.
            let z = on-grid (fin false m e) h in
            let is-z = steps_are (fin false m e) false (z.0 * 2 ^ z.1) z.2 in
            both (λ (a b : ℕ). n < (a + b) * (a + b)) y is-z
            (nearer_than_above n s k q r z.0 z.1 z.3.0 (root_is n).1 (both (λ (a b : ℕ). a < b) (sym y) (sym is-z) l));
      }

-- of a number above 0
pub root_of_lem : (x : Float) → T (fits binary32 x) → T (positive x) → SquareRoot x (sqrt_of x)
root_of_lem nan f p = absurd p
root_of_lem (inf s) f p = absurd p
root_of_lem (fin true m e) f p = absurd p
root_of_lem (fin false zero e) f p = absurd p
root_of_lem (fin false (suc m) e) f p = sqrt_nearest m e f

-- ---- a number has one square root, which is exact where binary32 holds it
abbrev Sq : ℕ → ℕ
Sq a = a * a

meets : (a b n : ℕ) → (b < a → Sq (a + b) < n) → (a < b → n < Sq (a + b)) → (b < a → n ≤ Sq (a + b)) → (a < b → Sq (a + b) ≤ n) → a ≡ b
meets a b n p q p' q' = go (dec_le a b) (dec_le b a)
  where
    go : Dec (a ≤ b) → Dec (b ≤ a) → a ≡ b
    go (yes f) (yes g) = le_antisymm f g
    go (no f) g = let l = lt_of_not-le f in absurd (not-le_of_lt (p l) (p' l))
    go (yes f) (no g) = let l = lt_of_not-le g in absurd (not-le_of_lt (q l) (q' l))

-- what is held and is above 0 is a `fin false`
split : (y : Float) → T (positive y) → (m : ℕ) × (e : ℤ) × (y ≡ fin false m e)
split nan h = absurd h
split (inf t) h = absurd h
split (fin true m e) h = absurd h
split (fin false m e) h = (m, e, refl)

sqrt_unique : (x y y' : Float) → SquareRoot x y → SquareRoot x y' → y ≡ y'
sqrt_unique x y y' r r' =
    let a = split y r.above_zero in
    let b = split y' r'.above_zero in
    a.2 ∙ at a.0 a.1 b.0 b.1 (subst (SquareRoot x) a.2 r) (subst (SquareRoot x) b.2 r') ∙ sym b.2
  where
    at : (m : ℕ) (e : ℤ) (m' : ℕ) (e' : ℤ) → SquareRoot x (fin false m e) → SquareRoot x (fin false m' e') → fin false m e ≡ fin false m' e'
    at m e m' e' r r' =
        let turn : Sq (steps (fin false m' e') + steps (fin false m e)) ≡ Sq (steps (fin false m e) + steps (fin false m' e')) = ap Sq (add_comm (steps (fin false m' e')) (steps (fin false m e))) in
        steps_injective false m e m' e' r.held r'.held
        (meets (steps (fin false m e)) (steps (fin false m' e')) (square x)
        (r.nearer_than_below m' e' r'.held)
        (r.nearer_than_above m' e' r'.held)
        (λ l. le_of_lt (subst (λ (z : ℕ). square x < z) turn (r'.nearer_than_above m e r.held l)))
        (λ l. le_of_lt (subst (λ (z : ℕ). z < square x) turn (r'.nearer_than_below m e r.held l))))

-- ---- every f32
pub sqrt_is : (x : Float) → T (fits binary32 x) → IsSqrt x (sqrt_of x)
unfolding sqrt_of
sqrt_is nan f = refl
sqrt_is (inf true) f = refl
sqrt_is (inf false) f = refl
sqrt_is (fin s zero e) f = refl
sqrt_is (fin true (suc m) e) f = refl
sqrt_is (fin false (suc m) e) f = sqrt_nearest m e f

pub sqrt_only : (x y : Float) → T (fits binary32 x) → IsSqrt x y → y ≡ sqrt_of x
unfolding sqrt_of
sqrt_only nan y f h = h
sqrt_only (inf true) y f h = h
sqrt_only (inf false) y f h = h
sqrt_only (fin s zero e) y f h = h
sqrt_only (fin true (suc m) e) y f h = h
sqrt_only (fin false (suc m) e) y f h = sqrt_unique (fin false (suc m) e) y (sqrt_of (fin false (suc m) e)) h (sqrt_nearest m e f)
