-- No number of a row is -0: a logarithm's level isn't, and adding the maximum gain to what isn't gives none. So no tie of +0 and -0 can
-- be met behind, and it would change no answer.
use mathlib.Core.Path.{◌≡◌, refl, sym, ap, ◌∙◌}
use mathlib.Core.Bool.{Bool, true, false, cond, beq, true≢false}
use mathlib.Core.List.{List}
use Prim.Native.Nat.{ℕ, zero, suc, ◌+◌, ◌-◌, ◌*◌, ◌^◌, ◌≤◌, ◌<◌}
use native.Mathlib.Nat.{mul-pos, one-mul, mul_assoc, mul_right_comm, mul-le-mul_right, mul-lt-mul_of_pos_right, lt_of_mul-lt-mul_right}
use native.Mathlib.Omega.{arith}
use borrow.Author.Tests.{ltb-true}
use lib.Pow.{pow_pos}
use lib.IntN.{ℤ, pos, negsuc}
use lib.Dec.{T, ltb, eqb, lit≤}
use lib.Ieee.{Float, nan, inf, fin, binary32, unlike, up, down, round, sum, add, mul, neg, le, lt, eq, fits, of_bits}
use lib.Ieee.Exact.{HasValue}
use lib.Ieee.Fits.{down_pos, up_pos, nan-fits, round-fits, cond-fits, mul-fits}
use lib.Ieee.Positive.{positive}
use lib.Ieee.Order.{round_mono}
use lib.Ieee.Scale.{finite, round_val, round_under}
use Rattle.numeric.specs.Rounding.{F, steps}
use Rattle.logarithm.specs.Logarithm.{logarithm_times, log10_of}
use Rattle.numeric.proofs.Steps.{own_steps, held_low}
use Rattle.floats.specs.Ops.{◌⊖◌, ◌⊕◌, ◌⊗◌, ◌⊘◌, +0, zero±, at}
use Rattle.floats.specs.Literals.{twenty}
use Rattle.floats.proofs.Negation.{round-neg}
use Rattle.floats.proofs.Order.{le-said}
use Rattle.antenna.specs.Literals.{floor_ratio}
use Rattle.antenna.specs.Gain.{floor_level, floored, ratio_level, decibels_of, number_at}
use Rattle.plate_row.specs.Row.{numbers_of}
use Rattle.antenna.specs.declared.record.Antenna.{Antenna}
use Rattle.antenna_laws.proofs.RowGains.{row_number}
use Rattle.antenna_laws.proofs.Ties.{minus_zero, less_zero}

abbrev Plain : Float → Type 0
Plain x = minus_zero x ≡ false

-- ---- roundings

unsigned_plain : (a c : ℕ) (x : Float) → (T (finite x) → HasValue x false a c) → Plain x
unsigned_plain a c nan h = refl
unsigned_plain a c (inf s) h = refl
unsigned_plain a c (fin false m e) h = refl
unsigned_plain a c (fin true m e) h = absurd (true≢false (h tt).0)

round_plain : (k c : ℕ) → Plain (round binary32 false k c)
round_plain k c = unsigned_plain _ _ (round binary32 false k c) (λ t. round_val binary32 k c (round_under binary32 k c t))

least-is : round binary32 false 1 (2 ^ 149) ≡ fin false 1 (negsuc 148)
unfolding round
least-is = refl

not-from-zero : (D E w : ℕ) → 0 < D → 1 * D + 0 * E ≤ 0 * w * E + 0 * D → ⊥
not-from-zero D E w l h = omega arith

neg_plain : (x : Float) → T (le (fin false 1 (negsuc 148)) x) → Plain (neg x)
unfolding neg
neg_plain nan h = refl
neg_plain (inf s) h = refl
neg_plain (fin true m e) h = refl
neg_plain (fin false zero e) h = absurd (not-from-zero (down e) (2 ^ 149) (up e) (down_pos e) (le-said (fin false 1 (negsuc 148)) (fin false zero e) tt tt h))
neg_plain (fin false (suc m) e) h = refl

-- a fraction of 2 ^ -149 or more isn't rounded to 0
round_negative : (k c : ℕ) → 0 < c → c ≤ k * 2 ^ 149 → Plain (round binary32 true k c)
round_negative k c C h =
    let l : T (le (round binary32 false 1 (2 ^ 149)) (round binary32 false k c)) = round_mono binary32 1 (2 ^ 149) k c (pow_pos 149) C (rw one-mul h) in
    rw (round-neg binary32 false k c) (neg_plain (round binary32 false k c) (rw least-is at l))

-- ---- sums

module _ (u : ℕ) (U : 0 < u) where
  -- of two multiples of 1 / u, as fractions over c, the gap is one too
  gap : (a k A B c : ℕ) → 0 < k → a * u ≡ A * c → (a + k) * u ≡ B * c → c ≤ k * u
  gap a k A B c K p q =
      let more : a * u < (a + k) * u = mul-lt-mul_of_pos_right (omega arith) U in
      let less : A < B = lt_of_mul-lt-mul_right c (omega arith) in
      omega (arith, mul-le-mul_right c less)

  between : (a b A B c : ℕ) → a < b → a * u ≡ A * c → b * u ≡ B * c → c ≤ (b - a) * u
  between a b A B c l p q =
      let e : a + (b - a) ≡ b = omega arith in
      gap a (b - a) A B c (omega arith) p (ap (λ (z : ℕ). z * u) e ∙ q)

  alone : (a b A c : ℕ) → 0 < a → a * u ≡ A * c → c ≤ (a + b) * u
  alone a b A c l p = omega (arith, gap 0 a 0 A c l (omega arith) (omega arith))

  at_least : (k c : ℕ) → 0 < k → c ≤ u → c ≤ k * u
  at_least k c h l = omega (arith, mul-le-mul_right u h)

sum_plain : (s t : Bool) (a b A B c : ℕ) → 0 < c → a * 2 ^ 149 ≡ A * c → b * 2 ^ 149 ≡ B * c → (s ≡ true → 0 < a) → Plain (sum binary32 s a t b c)
unfolding sum
sum_plain false false a b A B c C p q n = round_plain (a + b) c
sum_plain true true a b A B c C p q n = round_negative (a + b) c C (alone (2 ^ 149) (pow_pos 149) a b A c (n refl) p)
sum_plain false true a b A B c C p q n = go (ltb a b) refl
  where
    go : (x : Bool) → ltb a b ≡ x → Plain (cond x (round binary32 true (b - a) c) (round binary32 false (a - b) c))
    go true e = round_negative (b - a) c C (between (2 ^ 149) (pow_pos 149) a b A B c (ltb-true a b e) p q)
    go false e = round_plain (a - b) c
sum_plain true false a b A B c C p q n = go (ltb a b) (ltb b a) refl
  where
    go : (x y : Bool) → ltb b a ≡ y → Plain (cond x (round binary32 false (b - a) c) (round binary32 y (a - b) c))
    go true y e = round_plain (b - a) c
    go false true e = round_negative (a - b) c C (between (2 ^ 149) (pow_pos 149) b a B A c (ltb-true b a e) q p)
    go false false e = round_plain (a - b) c

over : (m : ℕ) (e d : ℤ) (A : ℕ) → m * up e * 2 ^ 149 ≡ A * down e → m * up e * down d * 2 ^ 149 ≡ A * (down e * down d)
over m e d A h = mul_right_comm (m * up e) (down d) (2 ^ 149) ∙ ap (λ (x : ℕ). x * down d) h ∙ mul_assoc A (down e) (down d)

not-zero : (s : Bool) (m : ℕ) (e d : ℤ) → Plain (fin s m e) → s ≡ true → 0 < m * up e * down d
not-zero false m e d h t = absurd (true≢false (sym t))
not-zero true zero e d h t = absurd (true≢false h)
not-zero true (suc m) e d h t = mul-pos (mul-pos (omega arith) (up_pos e)) (down_pos d)

same_infinity : (b s : Bool) → Plain (cond b (inf s) nan)
same_infinity true s = refl
same_infinity false s = refl

add_plain : (x y : Float) → T (fits binary32 x) → T (fits binary32 y) → Plain x → Plain (x ⊕ y)
unfolding add
add_plain nan y f g h = refl
add_plain (inf s) nan f g h = refl
add_plain (inf s) (inf t) f g h = same_infinity (beq s t) s
add_plain (inf s) (fin t n d) f g h = refl
add_plain (fin s m e) nan f g h = refl
add_plain (fin s m e) (inf t) f g h = refl
add_plain (fin s m e) (fin t n d) f g h =
    let right = over n d e (steps (fin t n d)) (own_steps t n d g).1 in
    sum_plain s t (m * up e * down d) (n * up d * down e) (steps (fin s m e)) (steps (fin t n d)) (down e * down d) (mul-pos (down_pos e) (down_pos d))
    (over m e d (steps (fin s m e)) (own_steps s m e f).1) (right ∙ ap (λ (c : ℕ). steps (fin t n d) * c) (omega arith)) (not-zero s m e d h)

-- ---- levels

other_infinity : (b s : Bool) → Plain (cond b nan (inf s))
other_infinity true s = refl
other_infinity false s = refl

times_plain : (i j : ℕ) (y : Float) → T (fits binary32 y) → Plain y → Plain (fin false (suc i) (pos j) ⊗ y)
unfolding mul
times_plain i j nan f h = refl
times_plain i j (inf t) f h = other_infinity (eqb (suc i) 0) (unlike false t)
times_plain i j (fin false n d) f h = round_plain (suc i * up (pos j) * (n * up d)) (down (pos j) * down d)
times_plain i j (fin true zero d) f h = absurd (true≢false h)
times_plain i j (fin true (suc n) d) f h =
    let k = suc i * up (pos j) * (suc n * up d) in
    let c = down (pos j) * down d in
    let some : 0 < k = mul-pos (mul-pos (omega arith) (up_pos (pos j))) (mul-pos (omega arith) (up_pos d)) in
    round_negative k c (mul-pos (down_pos (pos j)) (down_pos d)) (at_least (2 ^ 149) (pow_pos 149) k c some (rw one-mul (held_low true n d f)))

twenty-is : twenty ≡ fin false 5 (pos 2)
unfolding of_bits
twenty-is = refl

units_plain : (z : ℤ) → Plain (F z)
unfolding F
units_plain (pos w) = round_plain w (2 ^ 30)
units_plain (negsuc w) = round_negative (suc w) (2 ^ 30) (pow_pos 30) (at_least (2 ^ 149) (pow_pos 149) (suc w) (2 ^ 30) (omega arith) (lit≤ tt))

units-fit : (z : ℤ) → T (fits binary32 (F z))
unfolding F
units-fit (pos w) = round-fits binary32 false w (2 ^ 30)
units-fit (negsuc w) = round-fits binary32 true (suc w) (2 ^ 30)

logarithm_plain : (x : Float) → Plain (twenty ⊗ log10_of x)
unfolding logarithm_times
logarithm_plain x = rw twenty-is (go (positive x) _)
  where
    go : (b : Bool) (z : ℤ) → Plain (fin false 5 (pos 2) ⊗ cond b (F z) nan)
    go true z = times_plain 4 2 (F z) (units-fit z) (units_plain z)
    go false z = times_plain 4 2 nan (nan-fits binary32) refl

level_plain : (dgs : Float) → Plain (ratio_level dgs)
unfolding ratio_level of_bits neg
level_plain dgs = go (le dgs floor_ratio)
  where
    go : (b : Bool) → Plain (cond b floor_level (twenty ⊗ log10_of dgs))
    go true = refl
    go false = logarithm_plain dgs

-- ---- numbers

floor_plain : Plain floor_level
unfolding of_bits neg
floor_plain = refl

floor-fits : T (fits binary32 floor_level)
unfolding fits of_bits neg
floor-fits = tt

floored_plain : (x : Float) → Plain x → Plain (floored x)
unfolding floored
floored_plain x h = go (lt x floor_level)
  where
    go : (b : Bool) → Plain (cond b floor_level x)
    go true = floor_plain
    go false = h

ratio-fits : (dgs : Float) → T (fits binary32 (ratio_level dgs))
unfolding ratio_level
ratio-fits dgs = cond-fits binary32 (le dgs floor_ratio) floor_level (twenty ⊗ log10_of dgs) floor-fits (mul-fits binary32 twenty (log10_of dgs))

level-fits : (dgs : Float) → T (fits binary32 (floored (ratio_level dgs)))
unfolding floored
level-fits dgs = cond-fits binary32 (lt (ratio_level dgs) floor_level) floor_level (ratio_level dgs) floor-fits (ratio-fits dgs)

number_plain : (z9 z6 giso : Float) → T (fits binary32 giso) → Plain (decibels_of z9 z6 giso)
unfolding decibels_of
number_plain z9 z6 giso g = go (eq z6 +0)
  where
    go : (b : Bool) → Plain (cond b floor_level (floored (floored (ratio_level (z9 ⊘ z6)) ⊕ giso)))
    go true = floor_plain
    go false = floored_plain _ (add_plain (floored (ratio_level (z9 ⊘ z6))) giso (level-fits (z9 ⊘ z6)) g (floored_plain _ (level_plain (z9 ⊘ z6))))

-- the maximum gain an f32, as each that a caller hands over is
module _ (a : Antenna) (t : List Float) (u giso : Float) (g : T (fits binary32 giso)) where
  pub row_no_minus_zero : (v : ℕ) → v < 360 → minus_zero (at (numbers_of a t u giso) v) ≡ false
  unfolding number_at
  row_no_minus_zero v h = rw (row_number a t u giso v h) (number_plain _ _ giso g)

  -- so +0 or -0 behind, front-to-back has the same bits
  pub zeros-alike : (p q : Bool) → at (numbers_of a t u giso) 0 ⊖ zero± p ≡ at (numbers_of a t u giso) 0 ⊖ zero± q
  zeros-alike p q = less_zero (at (numbers_of a t u giso) 0) p q (row_no_minus_zero 0 (omega arith))
