-- The remainder by 360 of a number that binary32 holds, in steps of 2 ^ -149.
use Rattle.std.proofs.Common.{◌≡◌, ℕ, cond, inl, inr, add_assoc, lt_of_not-le, not-le_of_lt, mul-le-mul, ◌+◌, ◌-◌, ◌*◌, ◌/◌, ◌%◌, ◌^◌, ◌<◌, ◌≤◌, Bool, true, false, T, ℤ, pos, refl, sym, ap, ◌∙◌, subst, mod-lt, mul_assoc, mod-eq_of_lt, mul-lt-mul_of_pos_right, lt_of_lt_of_le, le_trans, lit<, lit≤, arith, pow_pos, pow_mono, pow-add, shl_lt}
use Rattle.std.proofs.Math.Nat.{div-add-mod'}
use Rattle.std.proofs.lemmas.Nat.{mod-mul-add}
use lib.Ieee.{Float, nan, inf, fin, binary32, up, down, round, rem, mul, of_int, of_bits, to_bits, fits}
use lib.Ieee.Exact.{HasValue, round_exact}
use lib.Ieee.Fits.{down_pos, round-fits}
use lib.Ieee.Scale.{finite, round_same}
use Rattle.numeric.specs.Float.{sign_bit}
use Rattle.numeric.specs.Rounding.{steps}
use Rattle.numeric.proofs.Steps.{Is, Kept, on-grid, bits_are, steps_are, steps-lt, own_steps, same-steps}
use Rattle.numeric.proofs.Values.{mul_of_values}
use Rattle.floats.specs.Literals.{literal}
use Rattle.directions.specs.Literals.{deg360}

mod-scale : (a b c : ℕ) → 0 < b → 0 < c → (a * c) % (b * c) ≡ (a % b) * c
mod-scale a b c B C =
    let e : a * c ≡ a / b * (b * c) + a % b * c = omega (arith, ap (λ (z : ℕ). z * c) (div-add-mod' a b)) in
    ap (λ (z : ℕ). z % (b * c)) e ∙ mod-mul-add (a / b) (b * c) (a % b * c) (mul-lt-mul_of_pos_right (mod-lt a B) C)

rem_steps : (s : Bool) (m : ℕ) (e : ℤ) → T (fits binary32 (fin s m e)) → rem binary32 (fin s m e) deg360 ≡ round binary32 s (steps (fin s m e) % (360 * 2 ^ 149)) (2 ^ 149)
unfolding rem of_bits
rem_steps s m e f =
    let a = steps (fin s m e) in
    let d = down e in
    let p : 0 < d = down_pos e in
    let x : m * up e * 1 * 2 ^ 149 ≡ a * d = ap (λ (z : ℕ). z * 2 ^ 149) (mul-one' (m * up e)) ∙ (own_steps s m e f).1 in
    let y : 45 * 8 * d * 2 ^ 149 ≡ 360 * 2 ^ 149 * d = mul_right_comm' 360 d (2 ^ 149) in
    round_same binary32 s (m * up e * 1 % (45 * 8 * d)) (d * 1) (a % (360 * 2 ^ 149)) (2 ^ 149) (omega arith) (pow_pos 149)
    (sym (mod-scale (m * up e * 1) (45 * 8 * d) (2 ^ 149) (omega arith) (pow_pos 149))
    ∙ ap (λ (z : ℕ). z % (45 * 8 * d * 2 ^ 149)) x
    ∙ ap (λ (z : ℕ). a * d % z) y
    ∙ mod-scale a (360 * 2 ^ 149) d (lit< tt) p
    ∙ ap (λ (z : ℕ). a % (360 * 2 ^ 149) * z) (sym (mul-one' d)))
  where
    mul-one' : (n : ℕ) → n * 1 ≡ n
    mul-one' n = omega arith

    mul_right_comm' : (a b c : ℕ) → a * b * c ≡ a * c * b
    mul_right_comm' a b c = omega arith

-- q * 2 ^ k steps, of which q has 24 digits, are held
rounds : (s : Bool) (q k : ℕ) → q < 2 ^ 24 → q * 2 ^ k < 2 ^ 277 → Is (round binary32 s (q * 2 ^ k) (2 ^ 149)) s (q * 2 ^ k)
rounds s q k l h = round_exact binary32 s (q * 2 ^ k) (2 ^ 149) q k (pow_pos 149) l h refl

-- a number's steps by its bits without the sign: q * 2 ^ k, where they are k * 2 ^ 23 + q
record Placed (x : Float) (b : ℕ) : Type 0 where
  pub q : ℕ
  pub k : ℕ
  pub whole : steps x ≡ q * 2 ^ k
  pub kept : Kept q k
  pub is : b ≡ k * 2 ^ 23 + q

cut : (s : Bool) (n r : ℕ) → n ≡ cond s (2 ^ 31) 0 + r → r < 2 ^ 31 → n % 2 ^ 31 ≡ r
cut true n r e l = omega arith
cut false n r e l = omega arith

few : (q k : ℕ) → Kept q k → q * 2 ^ k < 2 ^ 277 → k < 254
few q k h l = lt_of_not-le λ (n : 254 ≤ k). elim h.1 [
  | inl z ↦ omega arith
  | inr g ↦ not-le_of_lt l (le_trans (lit≤ tt) (mul-le-mul g (pow_mono n)))
]

placed : (s : Bool) (m : ℕ) (e : ℤ) → T (fits binary32 (fin s m e)) → Placed (fin s m e) (to_bits binary32 (fin s m e) % 2 ^ 31)
placed s m e f =
    let x = fin s m e in
    let g = on-grid x f in
    let q = g.0 in
    let k = g.1 in
    let whole : steps x ≡ q * 2 ^ k = steps_are x s (q * 2 ^ k) g.2 in
    let l : k < 254 = few q k g.3 (subst (λ (z : ℕ). z < 2 ^ 277) whole (steps-lt s m e f)) in
    let u : q < 2 ^ 24 = g.3.0 in
    record {
      q = q;
      k = k;
      whole = whole;
      kept = g.3;
      is = cut s (to_bits binary32 x) (k * 2 ^ 23 + q) (bits_are x s q k g.2 g.3 ∙ add_assoc (cond s (2 ^ 31) 0) (k * 2 ^ 23) q) (omega arith);
    }

low-places : (q k b : ℕ) → Kept q k → b ≡ k * 2 ^ 23 + q → b / 2 ^ 23 < 135 → k ≤ 133
low-places q k b h e l = elim h.1 [ inl z ↦ omega arith | inr g ↦ omega arith ]

high-places : (q k b : ℕ) → Kept q k → b ≡ k * 2 ^ 23 + q → 135 ≤ b / 2 ^ 23 → (k ≡ b / 2 ^ 23 - 135 + 134) × (q ≡ b % 2 ^ 23 + 2 ^ 23)
high-places q k b h e l = let u : q < 2 ^ 24 = h.0 in elim h.1 [ inl z ↦ absurd (omega arith) | inr g ↦ (omega arith, omega arith) ]

-- no number that isn't finite has one
pub turned_nan : (x : Float) → finite x ≡ false → nan ≡ rem binary32 x deg360
unfolding rem of_bits
turned_nan nan e = refl
turned_nan (inf s) e = refl
turned_nan (fin s m e) h = absurd (subst T h tt)

-- below 256 nothing is taken off
pub turned_low : (x : Float) → T (fits binary32 x) → T (finite x) → to_bits binary32 x % 2 ^ 31 / 2 ^ 23 < 135 → x ≡ rem binary32 x deg360
turned_low nan f t h = absurd t
turned_low (inf s) f t h = absurd t
turned_low (fin s m e) f t h =
    let x = fin s m e in
    let g = placed s m e f in
    let q = g.q in
    let k = g.k in
    let most : k ≤ 133 = low-places q k (to_bits binary32 x % 2 ^ 31) g.kept g.is h in
    let small : q * 2 ^ k < 2 ^ (24 + 133) = lt_of_lt_of_le (shl_lt 24 k g.kept.0) (pow_mono {i = 24 + k} {j = 24 + 133} (omega arith)) in
    let low : q * 2 ^ k < 360 * 2 ^ 149 = lt_of_lt_of_le small (lit≤ tt) in
    let held : q * 2 ^ k < 2 ^ 277 = lt_of_lt_of_le small (lit≤ tt) in
    same-steps x (round binary32 s (q * 2 ^ k) (2 ^ 149)) s (q * 2 ^ k) f (round-fits binary32 s (q * 2 ^ k) (2 ^ 149)) (subst (Is x s) g.whole (own_steps s m e f)) (rounds s q k g.kept.0 held)
    ∙ sym (rem_steps s m e f ∙ ap (λ (z : ℕ). round binary32 s z (2 ^ 149)) (ap (λ (z : ℕ). z % (360 * 2 ^ 149)) g.whole ∙ mod-eq_of_lt low))

-- the units of 2 ^ -15 that are left of a number from 256 on
abbrev pub left_in : Float → ℕ
left_in x = let b = to_bits binary32 x % 2 ^ 31 in (b % 2 ^ 23 + 2 ^ 23) * 2 ^ (b / 2 ^ 23 - 135) % 11796480

pub turned_high : (x : Float) → T (fits binary32 x) → T (finite x) → 135 ≤ to_bits binary32 x % 2 ^ 31 / 2 ^ 23 → rem binary32 x deg360 ≡ round binary32 (sign_bit x) (left_in x * 2 ^ 134) (2 ^ 149)
turned_high nan f t h = absurd t
turned_high (inf s) f t h = absurd t
turned_high (fin s m e) f t h =
    let b = to_bits binary32 (fin s m e) % 2 ^ 31 in
    let d = b % 2 ^ 23 + 2 ^ 23 in
    let n = b / 2 ^ 23 - 135 in
    let g = placed s m e f in
    let r = high-places g.q g.k b g.kept g.is h in
    let whole : steps (fin s m e) ≡ d * 2 ^ n * 2 ^ 134 =
    g.whole ∙ ap (λ (z : ℕ). z * 2 ^ g.k) r.1 ∙ ap (λ (z : ℕ). d * 2 ^ z) r.0 ∙ ap (λ (z : ℕ). d * z) (pow-add 2 n 134) ∙ sym (mul_assoc d (2 ^ n) (2 ^ 134)) in
    rem_steps s m e f
    ∙ ap (λ (z : ℕ). round binary32 s z (2 ^ 149))
    (ap (λ (z : ℕ). z % (360 * 2 ^ 149)) whole ∙ mod-scale (d * 2 ^ n) 11796480 (2 ^ 134) (lit< tt) (pow_pos 134))

-- n units of 2 ^ -15 as a float
pub units_are : (n : ℕ) → n < 2 ^ 24 → mul binary32 (of_int binary32 (pos n)) (literal 0x38000000) ≡ round binary32 false (n * 2 ^ 134) (2 ^ 149)
unfolding of_int of_bits
units_are n l =
    let count : HasValue (of_int binary32 (pos n)) false n 1 = round_exact binary32 false n 1 n 149 (lit< tt) l (lt_of_lt_of_le (shl_lt 24 149 l) (lit≤ tt)) (sym (one (n * 2 ^ 149))) in
    mul_of_values binary32 (of_int binary32 (pos n)) (literal 0x38000000) false false n 1 1 (2 ^ 15) (lit< tt) (pow_pos 15) count (refl, refl)
    ∙ round_same binary32 false (n * 1) (1 * 2 ^ 15) (n * 2 ^ 134) (2 ^ 149) (lit< tt) (pow_pos 149)
    (mul_assoc n 1 (2 ^ 149) ∙ sym (mul_assoc n (2 ^ 134) (1 * 2 ^ 15)))
  where
    one : (m : ℕ) → m * 1 ≡ m
    one m = omega arith
