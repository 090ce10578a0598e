-- Floats between two halves: no rounding carries a number past one. Half k is k / 2 - 100, so all halves from -100 on have a number.
use mathlib.Core.Path.{◌≡◌, refl, sym, ap, ◌∙◌}
use mathlib.Core.Logic.{◌⊎◌, inl, inr}
use mathlib.Core.Bool.{Bool, true, false}
use Prim.Native.Nat.{ℕ, zero, suc, ◌+◌, ◌-◌, ◌*◌, ◌/◌, ◌^◌, ◌≤◌, ◌<◌}
use native.Mathlib.Nat.{le_of_lt, lt_of_lt_of_le, mul_assoc, mul-le-mul_right, mul-pos, div-lt_iff_lt-mul}
use native.Mathlib.Omega.{arith}
use borrow.Author.Tests.{leb-true, leb-false, ltb-true, ltb-false}
use lib.Dec.{T, leb, ltb, lt→ltb, lit≤}
use lib.IntN.{pos, negsuc, neg_ℤ}
use lib.Pow.{shl_lt, pow_mono}
use lib.Ieee.{Float, nan, inf, fin, binary32, up, round, add, sub, neg, div, le, to_signed, of_int}
use lib.Ieee.Exact.{HasValue, round_exact}
use lib.Ieee.Order.{le_of_values}
use lib.Ieee.Positive.{positive, den, den_pos, first_pos}
use lib.Ieee.Scale.{finite}
use Rattle.floats.specs.Rounding.{natural}
use Rattle.floats.proofs.Negation.{round-neg}
use Rattle.floats.proofs.Order.{credit, debit, le-said, le_trans_finite, neg_order, Rounds, rounds_order, add_rounds, sub_rounds, div_rounds}

-- finite, and from half a to half b
pub record Between (a b : ℕ) (x : Float) : Type 0 where
  pub real : T (finite x)
  pub from : a * den x + debit x * 2 ≤ credit x * 2 + 200 * den x
  pub to : credit x * 2 + 200 * den x ≤ b * den x + debit x * 2

-- ---- binary32 has the halves
abbrev half : ℕ → Float
half k = fin (ltb k 200) (200 - k + (k - 200)) (negsuc 0)

half_value : (k : ℕ) → credit (half k) + 200 ≡ k + debit (half k)
half_value k = go (ltb k 200) refl
  where
    go : (s : Bool) → ltb k 200 ≡ s → let x = fin s (200 - k + (k - 200)) (negsuc 0) in credit x + 200 ≡ k + debit x
    go true e = omega (arith, ltb-true k 200 e)
    go false e = omega (arith, ltb-false k 200 e)

-- ±m / 2, rounded, is no other number
abbrev Same : Bool → ℕ → Type 0
Same s m = let x = round binary32 s m 2 in let y = fin s m (negsuc 0) in T (le x y) × T (le y x)

plus_held : (m : ℕ) → m < 2 ^ 24 → Same false m
plus_held m l =
    let x = round binary32 false m 2 in
    let y = fin false m (negsuc 0) in
    let v : HasValue x false m 2 =
    round_exact binary32 false m 2 m 148 (omega arith) l (lt_of_lt_of_le (shl_lt 24 148 l) (pow_mono {i = 24 + 148} {j = 277} (lit≤ tt))) (sym (mul_assoc m (2 ^ 148) 2)) in
    let w : HasValue y false m 2 = (refl, omega arith) in
    (le_of_values x y m 2 m 2 (omega arith) (omega arith) v w (omega arith), le_of_values y x m 2 m 2 (omega arith) (omega arith) w v (omega arith))

held : (s : Bool) (m : ℕ) → m < 2 ^ 24 → Same s m
held false m l = plus_held m l
held true m l =
    let h = plus_held m l in
    (rw (round-neg binary32 false) (unfold neg in neg_order _ _ h.1), rw (round-neg binary32 false) (unfold neg in neg_order _ _ h.0))

-- ---- what is finite on both sides is finite
between-finite : (y x z : Float) → T (finite y) → T (finite z) → T (le y x) → T (le x z) → T (finite x)
unfolding le
between-finite nan x z p q h k = absurd p
between-finite (inf s) x z p q h k = absurd p
between-finite (fin s m e) nan z p q h k = absurd h
between-finite (fin s m e) (inf true) z p q h k = absurd h
between-finite (fin s m e) (inf false) nan p q h k = absurd q
between-finite (fin s m e) (inf false) (inf u) p q h k = absurd q
between-finite (fin s m e) (inf false) (fin u i g) p q h k = absurd k
between-finite (fin s m e) (fin t n d) z p q h k = tt

-- ---- a number rounded from between two halves lies between them
module _ (k : ℕ) (small : k < 2 ^ 20) where
  abbrev rounded : Float
  rounded = round binary32 (ltb k 200) (200 - k + (k - 200)) 2

  same : Same (ltb k 200) (200 - k + (k - 200))
  same = held (ltb k 200) (200 - k + (k - 200)) (omega arith)

  rounded-finite : T (finite rounded)
  rounded-finite = between-finite (half k) rounded (half k) tt tt same.1 same.0

  rounds_half : Rounds binary32 rounded (credit (half k)) (debit (half k)) 2
  rounds_half = go (ltb k 200)
    where
      go : (s : Bool) → let m = 200 - k + (k - 200) in Rounds binary32 (round binary32 s m 2) (credit (fin s m (negsuc 0))) (debit (fin s m (negsuc 0))) 2
      go true = inr (omega arith, ap (λ (m : ℕ). round binary32 true m 2) (omega arith))
      go false = inl (omega arith, ap (λ (m : ℕ). round binary32 false m 2) (omega arith))

  module _ (x : Float) (p n c : ℕ) (C : 0 < c) (r : Rounds binary32 x p n c) where
    below_half : p * 2 + 200 * c ≤ k * c + n * 2 → T (le x (half k))
    below_half h =
        le_trans_finite x rounded (half k) rounded-finite
        (rounds_order binary32 x rounded p n c _ _ 2 C (omega arith) r rounds_half (omega (arith, ap (λ (z : ℕ). z * c) (half_value k)))) same.0

    above_half : k * c + n * 2 ≤ p * 2 + 200 * c → T (le (half k) x)
    above_half h =
        le_trans_finite (half k) rounded x rounded-finite same.1
        (rounds_order binary32 rounded x _ _ 2 p n c (omega arith) C rounds_half r (omega (arith, ap (λ (z : ℕ). z * c) (half_value k))))

pub rounds_between : (a b : ℕ) → a < 2 ^ 20 → b < 2 ^ 20 → (x : Float) (p n c : ℕ) → 0 < c → Rounds binary32 x p n c
    → a * c + n * 2 ≤ p * 2 + 200 * c → p * 2 + 200 * c ≤ b * c + n * 2 → Between a b x
rounds_between a b A B x p n c C r f t =
    let low = above_half a A x p n c C r f in
    let high = below_half b B x p n c C r t in
    let q = between-finite (half a) x (half b) tt tt low high in
    record {
      real = q;
      from = omega (arith, le-said (half a) x tt q low, ap (λ (z : ℕ). z * den x) (half_value a));
      to = omega (arith, le-said x (half b) q tt high, ap (λ (z : ℕ). z * den x) (half_value b));
    }

-- ---- sums, differences and quotients
module _ {a b c d : ℕ} {x y : Float} (r : Between a b x) (q : Between c d y) (i j : ℕ) (I : i < 2 ^ 20) (J : j < 2 ^ 20) where
  pub add-between : i + 200 ≤ a + c → b + d ≤ j + 200 → Between i j (add binary32 x y)
  add-between l h =
      let s = den x * den y in
      rounds_between i j I J (add binary32 x y) _ _ s (mul-pos (den_pos x) (den_pos y)) (add_rounds binary32 x y r.real q.real)
      (omega (arith, mul-le-mul_right s l, mul-le-mul_right (den y) r.from, mul-le-mul_right (den x) q.from))
      (omega (arith, mul-le-mul_right s h, mul-le-mul_right (den y) r.to, mul-le-mul_right (den x) q.to))

  pub sub-between : i + d ≤ a + 200 → b + 200 ≤ j + c → Between i j (sub binary32 x y)
  sub-between l h =
      let s = den x * den y in
      rounds_between i j I J (sub binary32 x y) _ _ s (mul-pos (den_pos x) (den_pos y)) (sub_rounds binary32 x y r.real q.real)
      (omega (arith, mul-le-mul_right s l, mul-le-mul_right (den y) r.from, mul-le-mul_right (den x) q.to))
      (omega (arith, mul-le-mul_right s h, mul-le-mul_right (den y) r.to, mul-le-mul_right (den x) q.from))

-- ---- y is the whole number n
pub record Whole (n : ℕ) (y : Float) : Type 0 where
  pub real : T (finite y)
  pub count : credit y ≡ n
  pub clear : debit y ≡ 0
  pub unit : den y ≡ 1

pub whole-between : {n : ℕ} {y : Float} → Whole n y → Between (200 + 2 * n) (200 + 2 * n) y
whole-between w = record { real = w.real; from = rw (w.count, w.clear, w.unit) (omega arith); to = rw (w.count, w.clear, w.unit) (omega arith) }

above_zero : (y : Float) → T (finite y) → 0 < credit y → T (positive y)
above_zero nan p h = absurd p
above_zero (inf s) p h = absurd p
above_zero (fin true m e) p h = absurd (omega arith)
above_zero (fin false m e) p h = lt→ltb 0 m (first_pos m (up e) h)

pub over-between : {a b n : ℕ} {x y : Float} → Between a b x → Whole n y → 0 < n → (i j : ℕ) → i < 2 ^ 20 → j < 2 ^ 20
    → n * i + 200 ≤ a + 200 * n → b + 200 * n ≤ n * j + 200 → Between i j (div binary32 x y)
over-between {a} {b} {n} {x} {y} r w N i j I J l h =
    let D = den x in
    let e = ap (λ (z : ℕ). z * D) w.count in
    let p = ap (λ (z : ℕ). credit x * z) w.unit in
    let m = ap (λ (z : ℕ). debit x * z) w.unit in
    rounds_between i j I J (div binary32 x y) _ _ (credit y * D) (rw w.count (mul-pos N (den_pos x)))
    (div_rounds binary32 x y r.real (above_zero y w.real (omega (arith, w.count))))
    (omega (arith, ap (λ (z : ℕ). i * z) e, p, m, e, mul-le-mul_right D l, r.from))
    (omega (arith, ap (λ (z : ℕ). j * z) e, p, m, e, mul-le-mul_right D h, r.to))

-- ---- where such numbers come from
pub wider : {a b : ℕ} {x : Float} → Between a b x → (i j : ℕ) → i ≤ a → b ≤ j → Between i j x
wider {a} {b} {x} r i j l h =
    record {
      real = r.real;
      from = omega (arith, r.from, mul-le-mul_right (den x) l);
      to = omega (arith, r.to, mul-le-mul_right (den x) h);
    }

count_rounds : (n : ℕ) → Rounds binary32 (of_int binary32 (pos n)) n 0 1
count_rounds n = inl (omega arith, is ∙ ap (λ (k : ℕ). round binary32 false k 1) (omega arith))
  where
    is : of_int binary32 (pos n) ≡ round binary32 false n 1
    is = unfold of_int in refl

pub count-between : (n : ℕ) → n < 2 ^ 18 → Between (200 + 2 * n) (200 + 2 * n) (of_int binary32 (pos n))
count-between n l = rounds_between (200 + 2 * n) (200 + 2 * n) (omega arith) (omega arith) (of_int binary32 (pos n)) n 0 1 (omega arith) (count_rounds n) (omega arith) (omega arith)

pub bounded : {n m : ℕ} {y z : Float} → Whole n y → Whole m z → (x : Float) → T (le y x) → T (le x z) → Between (200 + 2 * n) (200 + 2 * m) x
bounded {n} {m} {y} {z} v w x f t =
    let p = between-finite y x z v.real w.real f t in
    record {
      real = p;
      from = omega (arith, rw (v.count, v.clear, v.unit) at (le-said y x v.real p f));
      to = omega (arith, rw (w.count, w.clear, w.unit) at (le-said x z p w.real t));
    }

-- ---- a number between two halves, cut to a whole one
none_below : (n : ℕ) → natural (neg_ℤ (pos n)) ≡ 0
none_below zero = refl
none_below (suc n) = refl

cut : (h : ℕ) (x : Float) → T (finite x) → natural (to_signed h x) ≤ credit x / den x
unfolding to_signed
cut h nan p = absurd p
cut h (inf s) p = absurd p
cut h (fin true m e) p = rw none_below (omega arith)
cut h (fin false m e) p = omega arith

one_sign : (x : Float) → (credit x ≡ 0) ⊎ (debit x ≡ 0)
one_sign nan = inl refl
one_sign (inf s) = inl refl
one_sign (fin true m e) = inl refl
one_sign (fin false m e) = inr refl

pub cut_below : (h n : ℕ) {a : ℕ} {x : Float} → Between a (2 * n + 201) x → natural (to_signed h x) ≤ n
cut_below h n {a} {x} r =
    let D = den_pos x in
    let under : credit x < suc n * den x = elim (one_sign x) [ inl z ↦ omega arith | inr z ↦ omega (arith, r.to) ] in
    omega (arith, cut h x r.real, (div-lt_iff_lt-mul {k = den x} {x = credit x} {y = suc n} D).1 under)

-- ---- two halves that are neighbours
either_way : (a b : ℕ) → (a ≤ b) ⊎ (b ≤ a)
either_way a b = go (leb a b) refl
  where
    go : (t : Bool) → leb a b ≡ t → (a ≤ b) ⊎ (b ≤ a)
    go true e = inl (leb-true a b e)
    go false e = inr (le_of_lt (leb-false a b e))

pub cell : (a n : ℕ) {x : Float} → Between a (a + suc n) x → (k : ℕ) × (a ≤ k) × (k ≤ a + n) × Between k (k + 1) x
cell a zero {x} r = (a, omega arith, omega arith, wider r a (a + 1) (omega arith) (omega arith))
cell a (suc n) {x} r = elim (either_way (credit x * 2 + 200 * den x) ((a + suc n) * den x + debit x * 2)) [
  | inl l ↦ let c = cell a n {x = x} (record { real = r.real; from = r.from; to = l }) in (c.0, c.1, omega (arith, c.2), c.3)
  | inr l ↦
      let q : Between (a + suc n) (a + suc (suc n)) x = record { real = r.real; from = l; to = r.to } in
      (a + suc n, omega arith, omega arith, wider q (a + suc n) (a + suc n + 1) (omega arith) (omega arith))
]

-- ---- ((v + w) - (v - w) + 1) / 1 with a whole number w, cut: at most 2w + 1, however the sums round
abbrev around : Float → Float → Float → Float
around w u v = div binary32 (add binary32 (sub binary32 (add binary32 v w) (sub binary32 v w)) u) u

pub around_cut : (h : ℕ) {n : ℕ} {w u : Float} → Whole n w → Whole 1 u → n < 2 ^ 16 → {a b : ℕ} {v : Float} → 2 * n ≤ a → a < b → b < 2 ^ 16 → Between a b v
    → natural (to_signed h (around w u v)) ≤ 2 * n + 1
around_cut h {n} {w} {u} N U small {a} {b} {v} from order to r =
    let c = cell a (b - suc a) (wider r a (a + suc (b - suc a)) (omega arith) (omega arith)) in
    let k = c.0 in
    let i = whole-between N in
    let e = whole-between U in
    let sum = add-between c.3 i (k + 2 * n) (k + 2 * n + 1) (omega (arith, c.2)) (omega (arith, c.2)) (omega arith) (omega arith) in
    let difference = sub-between c.3 i (k - 2 * n) (k - 2 * n + 1) (omega (arith, c.2)) (omega (arith, c.2)) (omega (arith, c.1)) (omega (arith, c.1)) in
    let wide = sub-between sum difference (4 * n + 199) (4 * n + 201) (omega arith) (omega arith) (omega (arith, c.1)) (omega (arith, c.1)) in
    let more = add-between wide e (4 * n + 201) (4 * n + 203) (omega arith) (omega arith) (omega arith) (omega arith) in
    cut_below h (2 * n + 1) (over-between more U (omega arith) (4 * n + 201) (2 * (2 * n + 1) + 201) (omega arith) (omega arith) (omega arith) (omega arith))
