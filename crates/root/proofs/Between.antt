-- The arithmetic of a root rounded to nearest, on whole numbers. s is the root of n, cut, and q * 2 ^ k, with q of 24 digits, is s / 2 rounded to nearest.
-- Then the middle of q * 2 ^ k with each smaller number of at most 24 digits before its zeros is below n's root, and with each larger one above it.
use mathlib.Core.Path.{◌≡◌, refl, sym, ap, ◌∙◌, subst}
use mathlib.Core.Logic.{◌⊎◌, inl, inr}
use Prim.Native.Nat.{ℕ, zero, suc, ◌+◌, ◌-◌, ◌*◌, ◌/◌, ◌%◌, ◌^◌, ◌≤◌, ◌<◌, zero-le}
use native.Mathlib.Nat.{le_trans, le_of_eq, le_of_lt, lt_of_lt_of_le, lt_of_le_of_lt, lt_of_not-le, eq-or-lt_of_le, zero-lt-suc, mul-one, mul_assoc, mul_left_comm, mul-mul-mul_comm, add-mul, mul-add, suc-mul, mul-le-mul, mul-le-mul_left, mul-le-mul_right, mul-lt-mul_of_pos_right, lt_of_mul-lt-mul_right, mul-pos, pow-suc, pow-succ', eq_of_mul-eq-mul_left}
use native.Mathlib.Decide.{dec_le}
use native.Mathlib.Omega.{arith}
use lib.Pow.{pow_pos, pow-add, pow_mono}
use Rattle.root.proofs.Halves.{even_odd}

-- ---- multiples of 2 ^ k
join : (j k : ℕ) → k ≤ j → j - k + k ≡ j
join j k h = omega arith

-- a multiple of 2 ^ j is one of 2 ^ k for each k up to j
shifted : (q j k : ℕ) → k ≤ j → q * 2 ^ j ≡ q * 2 ^ (j - k) * 2 ^ k
shifted q j k h = ap (λ (z : ℕ). q * 2 ^ z) (sym (join j k h)) ∙ ap (λ (z : ℕ). q * z) (pow-add 2 (j - k) k) ∙ sym (mul_assoc q (2 ^ (j - k)) (2 ^ k))

-- two multiples of p that differ are p apart
apart : (a b p : ℕ) → a * p < b * p → a * p + p ≤ b * p
apart a b p h = le_trans (le_of_eq (sym (suc-mul a p))) (mul-le-mul_right p (lt_of_mul-lt-mul_right p h))

-- with at most 24 digits before fewer than k zeros, a number is below 2 ^ 23 * 2 ^ k
short : (q j k : ℕ) → q < 2 ^ 24 → j < k → q * 2 ^ j < 2 ^ 23 * 2 ^ k
short q j k h l =
    let a : q * 2 ^ j < 2 ^ 24 * 2 ^ j = mul-lt-mul_of_pos_right h (pow_pos j) in
    let b : 2 ^ j * 2 ≤ 2 ^ k = le_trans (le_of_eq (sym (pow-suc 2 j))) (pow_mono l) in
    omega arith

-- ---- what is rounded to nearest
pub record Rounded (s k q : ℕ) : Type 0 where
  pub digits : 2 ^ 23 ≤ q
  pub least : 2 ^ 24 * 2 ^ k ≤ s
  pub up : 2 * (q * 2 ^ k) ≤ s + 2 ^ k
  pub down : s < 2 * (q * 2 ^ k) + 2 ^ k

module _ (s k q : ℕ) (r : Rounded s k q) (m j : ℕ) (h : m < 2 ^ 24) where
  pub middle_above : q * 2 ^ k < m * 2 ^ j → s < q * 2 ^ k + m * 2 ^ j
  middle_above l = go (dec_le k j)
    where
      d : 2 ^ 23 * 2 ^ k ≤ q * 2 ^ k
      d = mul-le-mul_right (2 ^ k) r.digits

      go : Dec (k ≤ j) → s < q * 2 ^ k + m * 2 ^ j
      go (yes g) =
          let e = shifted m j k g in
          let a : q * 2 ^ k + 2 ^ k ≤ m * 2 ^ (j - k) * 2 ^ k = apart q (m * 2 ^ (j - k)) (2 ^ k) (subst (λ (z : ℕ). q * 2 ^ k < z) e l) in
          omega (arith, r.down)
      go (no g) = let a = short m j k h (lt_of_not-le g) in absurd (omega (arith, d))

  pub middle_below : m * 2 ^ j < q * 2 ^ k → q * 2 ^ k + m * 2 ^ j ≤ s
  middle_below l = go (dec_le k j)
    where
      go : Dec (k ≤ j) → q * 2 ^ k + m * 2 ^ j ≤ s
      go (yes g) =
          let e = shifted m j k g in
          let a : m * 2 ^ (j - k) * 2 ^ k + 2 ^ k ≤ q * 2 ^ k = apart (m * 2 ^ (j - k)) q (2 ^ k) (subst (λ (z : ℕ). z < q * 2 ^ k) e l) in
          omega (arith, r.up)
      go (no g) =
          let a = short m j k h (lt_of_not-le g) in
          elim (eq-or-lt_of_le r.digits) [
            | inl e ↦ let b : 2 ^ 23 * 2 ^ k ≡ q * 2 ^ k = ap (λ (z : ℕ). z * 2 ^ k) e in omega (arith, r.least)
            | inr b ↦ let c : suc (2 ^ 23) * 2 ^ k ≤ q * 2 ^ k = mul-le-mul_right (2 ^ k) b in omega (arith, r.up)
          ]

-- ---- a root that is exact is not rounded
odd-square : (c t : ℕ) → (2 * c + 1) * (2 * c + 1) ≡ 4 * t → ⊥
odd-square c t h =
    let a = add-mul (2 * c) 1 (2 * c + 1) in
    let b = mul-add (2 * c) (2 * c) 1 in
    even_odd (2 * (c * (2 * c)) + 2 * c + 2 * c + 1) (2 * t) (omega arith) (omega (arith, mul_assoc 2 c (2 * c)))

even_or_odd : (s : ℕ) → ((c : ℕ) × (s ≡ 2 * c)) ⊎ ((c : ℕ) × (s ≡ 2 * c + 1))
even_or_odd s = go (s % 2) refl
  where
    go : (r : ℕ) → s % 2 ≡ r → ((c : ℕ) × (s ≡ 2 * c)) ⊎ ((c : ℕ) × (s ≡ 2 * c + 1))
    go zero e = inl (s / 2, omega arith)
    go (suc r) e = inr (s / 2, omega arith)

-- where the square of 2 ^ i divides the square of s, 2 ^ i divides s
root_of_multiple : (i s a : ℕ) → s * s ≡ a * (2 ^ i * 2 ^ i) → (b : ℕ) × (s ≡ b * 2 ^ i)
root_of_multiple zero s a h = (s, sym (mul-one s))
root_of_multiple (suc i) s a h =
    let t = a * (2 ^ i * 2 ^ i) in
    let four : s * s ≡ 4 * t = h ∙ ap (λ (z : ℕ). a * (z * z)) (pow-succ' 2 i) ∙ ap (λ (z : ℕ). a * z) (mul-mul-mul_comm 2 (2 ^ i) 2 (2 ^ i)) ∙ mul_left_comm a 4 (2 ^ i * 2 ^ i) in
    elim (even_or_odd s) [
      | inl w ↦
          let c = w.0 in
          let b = root_of_multiple i c a (eq_of_mul-eq-mul_left 4 (zero-lt-suc 3) (c * c) t (sym (mul-mul-mul_comm 2 c 2 c) ∙ ap (λ (z : ℕ). z * z) (sym w.1) ∙ four)) in
          (b.0, w.1 ∙ ap (λ (z : ℕ). 2 * z) b.1 ∙ mul_left_comm 2 b.0 (2 ^ i) ∙ ap (λ (z : ℕ). b.0 * z) (sym (pow-succ' 2 i)))
      | inr w ↦ absurd (odd-square w.0 t (ap (λ (z : ℕ). z * z) (sym w.1) ∙ four))
    ]

module _ (s k q : ℕ) (r : Rounded s k q) (x e : ℕ) (h : x < 2 ^ 24) (exact : s * s ≡ x * 2 ^ e) where
  -- the square has so few digits that many zeros stand at its end
  zeros : suc k + suc k ≤ e
  zeros = go (dec_le (suc k + suc k) e)
    where
      big : 2 ^ 24 * 2 ^ k * (2 ^ 24 * 2 ^ k) ≤ s * s
      big = mul-le-mul r.least r.least

      few : e < suc k + suc k → x * 2 ^ e ≤ 2 ^ 25 * (2 ^ k * 2 ^ k)
      few l =
          let g : e ≤ suc (k + k) = omega arith in
          le_trans (mul-le-mul (le_of_lt h) (pow_mono g))
          (le_of_eq (ap (λ (z : ℕ). 2 ^ 24 * z) (pow-succ' 2 (k + k) ∙ ap (λ (z : ℕ). 2 * z) (pow-add 2 k k)) ∙ sym (mul_assoc (2 ^ 24) 2 (2 ^ k * 2 ^ k))))

      go : Dec (suc k + suc k ≤ e) → suc k + suc k ≤ e
      go (yes g) = g
      go (no g) =
          let p : 0 < 2 ^ k * 2 ^ k = mul-pos (pow_pos k) (pow_pos k) in
          let m = mul-mul-mul_comm (2 ^ 24) (2 ^ k) (2 ^ 24) (2 ^ k) in
          absurd (omega (arith, big, few (lt_of_not-le g)))

  not-rounded : 2 * (q * 2 ^ k) ≡ s
  not-rounded =
      let i = suc k in
      let b = root_of_multiple i s (x * 2 ^ (e - (i + i))) (exact ∙ shifted x e (i + i) zeros ∙ ap (λ (z : ℕ). x * 2 ^ (e - (i + i)) * z) (pow-add 2 i i)) in
      same b.0 (b.1 ∙ ap (λ (z : ℕ). b.0 * z) (pow-succ' 2 k) ∙ mul_left_comm b.0 2 (2 ^ k))
    where
      same : (b : ℕ) → s ≡ 2 * (b * 2 ^ k) → 2 * (q * 2 ^ k) ≡ s
      same b e = go (dec_le (q * 2 ^ k) (b * 2 ^ k)) (dec_le (b * 2 ^ k) (q * 2 ^ k))
        where
          go : Dec (q * 2 ^ k ≤ b * 2 ^ k) → Dec (b * 2 ^ k ≤ q * 2 ^ k) → 2 * (q * 2 ^ k) ≡ s
          go (yes f) (yes g) = omega arith
          go (no f) g = absurd (omega (arith, r.up, pow_pos k, apart b q (2 ^ k) (lt_of_not-le f)))
          go (yes f) (no g) = absurd (omega (arith, r.down, pow_pos k, apart q b (2 ^ k) (lt_of_not-le g)))

-- ---- nearer to the root of n than m * 2 ^ j
square_mono : (a b : ℕ) → a < b → a * a < b * b
square_mono a b h = lt_of_le_of_lt (mul-le-mul_left a (le_of_lt h)) (mul-lt-mul_of_pos_right h (lt_of_le_of_lt zero-le h))

module _ (n s k q : ℕ) (r : Rounded s k q) (m j : ℕ) (h : m < 2 ^ 24) where
  pub nearer_than_above : n < suc s * suc s → q * 2 ^ k < m * 2 ^ j → n < (q * 2 ^ k + m * 2 ^ j) * (q * 2 ^ k + m * 2 ^ j)
  nearer_than_above high l = let a = middle_above s k q r m j h l in lt_of_lt_of_le high (mul-le-mul a a)

  pub nearer_than_below : s * s ≤ n → (x e : ℕ) → x < 2 ^ 24 → n ≡ x * 2 ^ e → m * 2 ^ j < q * 2 ^ k → (q * 2 ^ k + m * 2 ^ j) * (q * 2 ^ k + m * 2 ^ j) < n
  nearer_than_below low x e g is l = go (eq-or-lt_of_le (middle_below s k q r m j h l)) (eq-or-lt_of_le low)
    where
      t : ℕ
      t = q * 2 ^ k + m * 2 ^ j

      half : (a b : ℕ) → a + b ≡ s → 2 * a ≡ s → b < a → ⊥
      half a b p u v = omega arith

      go : (t ≡ s) ⊎ (t < s) → (s * s ≡ n) ⊎ (s * s < n) → t * t < n
      go (inr u) v = lt_of_lt_of_le (square_mono t s u) low
      go (inl u) (inr v) = subst (λ (z : ℕ). z * z < n) (sym u) v
      go (inl u) (inl v) = absurd (half (q * 2 ^ k) (m * 2 ^ j) u (not-rounded s k q r x e g (v ∙ is)) l)
