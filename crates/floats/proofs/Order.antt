-- The order of floats of either sign, and the rounding of a signed fraction, which keeps it: sums, differences, products and
-- quotients are such roundings. A finite x is (credit x - debit x) / den x, and one of the two is 0.
use mathlib.Core.Path.{◌≡◌, refl, sym, ap, ◌∙◌}
use mathlib.Core.Logic.{◌⊎◌, inl, inr}
use mathlib.Core.Bool.{Bool, true, false, not, ◌&&◌, ◌||◌, cond}
use Prim.Native.Nat.{ℕ, ◌+◌, ◌-◌, ◌*◌, ◌≤◌, ◌<◌}
use native.Mathlib.Nat.{mul-pos, mul-le-mul_right, zero-mul, le_of_mul-le-mul_right, eq-or-lt_of_le, eq-zero-or-pos}
use native.Mathlib.Omega.{arith}
use lib.IntN.{ℤ}
use lib.Dec.{T, ltb, eqb, ltb→lt, lt→ltb, eqb→eq}
use borrow.Author.Tests.{ltb-true, ltb-false, ne_eqb}
use lib.Ieee.{Float, nan, inf, fin, Format, binary32, binary64, up, down, below, level, unlike, round, sum, add, sub, mul, div, neg, le}
use lib.Ieee.Fits.{and_l, and_r, and_i, eq→eqb}
use lib.Ieee.Order.{round_mono}
use Rattle.floats.proofs.Negation.{round-neg}
use lib.Ieee.Positive.{positive, den, den_pos}
use lib.Ieee.Scale.{finite}

-- ---- a finite x as (credit x - debit x) / den x
abbrev signed : Bool → ℕ → ℕ
signed true a = a
signed false a = 0

abbrev pub credit : Float → ℕ
credit nan = 0
credit (inf s) = 0
credit (fin s m e) = signed (not s) (m * up e)

abbrev pub debit : Float → ℕ
debit nan = 0
debit (inf s) = 0
debit (fin s m e) = signed s (m * up e)

either : (p q : Bool) → T (p || q) → T p ⊎ T q
either true q t = inl tt
either false q t = inr t

left : (p q : Bool) → T p → T (p || q)
left true q t = tt
left false q t = absurd t

right : (p q : Bool) → T q → T (p || q)
right true q t = tt
right false q t = t

-- ±a ≤ ±b, of whole numbers
said : (s t : Bool) (a b : ℕ) → T (below s a t b || level s a t b) → signed (not s) a + signed t b ≤ signed (not t) b + signed s a
said false false a b h = elim (either (ltb a b) (eqb a b && true) h) [ inl l ↦ omega (arith, ltb→lt a b l) | inr e ↦ omega (arith, eqb→eq a b (and_l (eqb a b) true e)) ]
said false true a b h = omega (arith, eqb→eq a b (and_l (eqb a b) (eqb a 0) h), eqb→eq a 0 (and_r (eqb a b) (eqb a 0) h))
said true false a b h = omega arith
said true true a b h = elim (either (ltb b a) (eqb a b && true) h) [ inl l ↦ omega (arith, ltb→lt b a l) | inr e ↦ omega (arith, eqb→eq a b (and_l (eqb a b) true e)) ]

both_zero : (a b : ℕ) → a + b ≡ 0 → T (eqb a b && eqb a 0)
both_zero a b z = and_i (eqb a b) (eqb a 0) (eq→eqb {a = a} {b = b} (omega arith)) (eq→eqb {a = a} {b = 0} (omega arith))

told : (s t : Bool) (a b : ℕ) → signed (not s) a + signed t b ≤ signed (not t) b + signed s a → T (below s a t b || level s a t b)
told false false a b h = elim (eq-or-lt_of_le {n = a} {m = b} (omega arith)) [
  | inl e ↦ right (ltb a b) _ (and_i (eqb a b) true (eq→eqb e) tt)
  | inr l ↦ left (ltb a b) _ (lt→ltb a b l)
]
told false true a b h = both_zero a b (omega arith)
told true false a b h = elim (eq-zero-or-pos (a + b)) [
  | inl z ↦ right (ltb 0 (a + b)) _ (both_zero a b z)
  | inr p ↦ left (ltb 0 (a + b)) _ (lt→ltb 0 (a + b) p)
]
told true true a b h = elim (eq-or-lt_of_le {n = b} {m = a} (omega arith)) [
  | inl e ↦ right (ltb b a) _ (and_i (eqb a b) true (eq→eqb (sym e)) tt)
  | inr l ↦ left (ltb b a) _ (lt→ltb b a l)
]

-- ±(a * k)
times : (s : Bool) (a k : ℕ) → signed s (a * k) ≡ signed s a * k
times true a k = refl
times false a k = sym (zero-mul k)

pub le-said : (x y : Float) → T (finite x) → T (finite y) → T (le x y) → credit x * den y + debit y * den x ≤ credit y * den x + debit x * den y
unfolding le
le-said nan y p q h = absurd p
le-said (inf s) y p q h = absurd p
le-said (fin s m e) nan p q h = absurd q
le-said (fin s m e) (inf t) p q h = absurd q
le-said (fin s m e) (fin t n d) p q h = rw (← times (not s), ← times t, ← times (not t), ← times s) (said s t (m * up e * down d) (n * up d * down e) h)

pub le-told : (x y : Float) → T (finite x) → T (finite y) → credit x * den y + debit y * den x ≤ credit y * den x + debit x * den y → T (le x y)
unfolding le
le-told nan y p q h = absurd p
le-told (inf s) y p q h = absurd p
le-told (fin s m e) nan p q h = absurd q
le-told (fin s m e) (inf t) p q h = absurd q
le-told (fin s m e) (fin t n d) p q h = told s t (m * up e * down d) (n * up d * down e) (rw (times (not s), times t, times (not t), times s) h)

-- ---- x ≤ y ≤ z, y finite
pub le_trans_finite : (x y z : Float) → T (finite y) → T (le x y) → T (le y z) → T (le x z)
unfolding le
le_trans_finite x nan z p h k = absurd p
le_trans_finite x (inf s) z p h k = absurd p
le_trans_finite nan (fin t n d) z p h k = absurd h
le_trans_finite (inf false) (fin t n d) z p h k = absurd h
le_trans_finite (inf true) (fin t n d) nan p h k = absurd k
le_trans_finite (inf true) (fin t n d) (inf true) p h k = tt
le_trans_finite (inf true) (fin t n d) (inf false) p h k = tt
le_trans_finite (inf true) (fin t n d) (fin u i g) p h k = tt
le_trans_finite (fin s m e) (fin t n d) nan p h k = absurd k
le_trans_finite (fin s m e) (fin t n d) (inf true) p h k = absurd k
le_trans_finite (fin s m e) (fin t n d) (inf false) p h k = tt
le_trans_finite (fin s m e) (fin t n d) (fin u i g) p h k =
    let x = fin s m e in
    let y = fin t n d in
    let z = fin u i g in
    le-told x z tt tt (through (credit x) (debit x) (den x) (credit y) (debit y) (den y) (credit z) (debit z) (den z) (den_pos y) (le-said x y tt tt h) (le-said y z tt tt k))
  where
    through : (P N a Q M b R L c : ℕ) → 0 < b → P * b + M * a ≤ Q * a + N * b → Q * c + L * b ≤ R * b + M * c → P * c + L * a ≤ R * a + N * c
    through P N a Q M b R L c B f g =
        le_of_mul-le-mul_right {k = b} (omega (arith, mul-le-mul_right c f, mul-le-mul_right a g)) B

-- a negation turns the order
pub neg_order : (x y : Float) → T (le x y) → T (le (neg y) (neg x))
unfolding le neg
neg_order nan y h = absurd h
neg_order (inf s) nan h = absurd h
neg_order (inf true) (inf true) h = tt
neg_order (inf true) (inf false) h = tt
neg_order (inf false) (inf true) h = absurd h
neg_order (inf false) (inf false) h = tt
neg_order (inf true) (fin t n d) h = tt
neg_order (inf false) (fin t n d) h = absurd h
neg_order (fin s m e) nan h = absurd h
neg_order (fin s m e) (inf true) h = absurd h
neg_order (fin s m e) (inf false) h = tt
neg_order (fin s m e) (fin t n d) h = turned s t (m * up e * down d) (n * up d * down e) h
  where
    turned : (s t : Bool) (a b : ℕ) → T (below s a t b || level s a t b) → T (below (not t) b (not s) a || level (not t) b (not s) a)
    turned true true a b l = told false false b a (omega (arith, said true true a b l))
    turned true false a b l = told true false b a (omega arith)
    turned false true a b l = told false true b a (omega (arith, said false true a b l))
    turned false false a b l = told true true b a (omega (arith, said false false a b l))

-- ---- x is (p - n) / c, rounded; of an exact 0 the sign is left open
abbrev pub Rounds : Format → Float → ℕ → ℕ → ℕ → Type 0
Rounds f x p n c = ((n ≤ p) × (x ≡ round f false (p - n) c)) ⊎ ((p ≤ n) × (x ≡ round f true (n - p) c))

pub sum_rounds : (f : Format) (s : Bool) (a : ℕ) (t : Bool) (b c : ℕ)
    → Rounds f (sum f s a t b c) (signed (not s) a + signed (not t) b) (signed s a + signed t b) c
unfolding sum
sum_rounds f false a false b c = inl (omega arith, ap (λ (k : ℕ). round f false k c) (omega arith))
sum_rounds f true a true b c = inr (omega arith, ap (λ (k : ℕ). round f true k c) (omega arith))
sum_rounds f false a true b c = go (ltb a b) refl
  where
    go : (x : Bool) → ltb a b ≡ x → Rounds f (cond x (round f true (b - a) c) (round f false (a - b) c)) (a + 0) (0 + b) c
    go true e = inr (omega (arith, ltb-true a b e), ap (λ (k : ℕ). round f true k c) (omega arith))
    go false e = inl (omega (arith, ltb-false a b e), ap (λ (k : ℕ). round f false k c) (omega arith))
sum_rounds f true a false b c = go (ltb a b) (ltb b a) refl refl
  where
    go : (x y : Bool) → ltb a b ≡ x → ltb b a ≡ y → Rounds f (cond x (round f false (b - a) c) (round f y (a - b) c)) (0 + b) (a + 0) c
    go true y e g = inl (omega (arith, ltb-true a b e), ap (λ (k : ℕ). round f false k c) (omega arith))
    go false true e g = inr (omega (arith, ltb-false a b e), ap (λ (k : ℕ). round f true k c) (omega arith))
    go false false e g = inl (omega (arith, ltb-false b a g), ap (λ (k : ℕ). round f false k c) (omega (arith, ltb-false a b e, ltb-false b a g)))

-- +0 and -0 are equal
zero-finite : (f : Format) (s : Bool) → T (finite (round f s 0 1))
unfolding round
zero-finite binary32 s = tt
zero-finite binary64 s = tt

zeros : (f : Format) (s : Bool) → T (le (round f s 0 1) (round f (not s) 0 1))
unfolding round le
zeros binary32 true = tt
zeros binary32 false = tt
zeros binary64 true = tt
zeros binary64 false = tt

round_neg_order : (f : Format) (a c b d : ℕ) → T (le (round f false a c) (round f false b d)) → T (le (round f true b d) (round f true a c))
round_neg_order f a c b d h = rw (round-neg f false, round-neg f false) (neg_order (round f false a c) (round f false b d) h)

module _ (f : Format) (a c b d : ℕ) (C : 0 < c) (D : 0 < d) where
  negative_below : T (le (round f true a c) (round f false b d))
  negative_below =
      let up : T (le (round f false 0 1) (round f false b d)) = round_mono f 0 1 b d (omega arith) D (omega arith) in
      let down : T (le (round f true a c) (round f true 0 1)) = round_neg_order f 0 1 a c (round_mono f 0 1 a c (omega arith) C (omega arith)) in
      le_trans_finite _ (round f true 0 1) _ (zero-finite f true) down
      (le_trans_finite (round f true 0 1) (round f false 0 1) _ (zero-finite f false) (zeros f true) up)

  zeros_equal : a ≡ 0 → b ≡ 0 → T (le (round f false a c) (round f true b d))
  zeros_equal z w =
      let down : T (le (round f false a c) (round f false 0 1)) = round_mono f a c 0 1 C (omega arith) (omega arith) in
      let up : T (le (round f true 0 1) (round f true b d)) = round_neg_order f b d 0 1 (round_mono f b d 0 1 D (omega arith) (omega arith)) in
      le_trans_finite _ (round f false 0 1) _ (zero-finite f false) down
      (le_trans_finite (round f false 0 1) (round f true 0 1) _ (zero-finite f true) (zeros f false) up)

-- where p / c - n / c ≤ q / d - m / d
less : (p n c q m d : ℕ) → n ≤ p → m ≤ q → p * d + m * c ≤ q * c + n * d → (p - n) * d ≤ (q - m) * c
less p n c q m d l k h = go (p - n) (q - m) (omega arith) (omega arith)
  where
    go : (a b : ℕ) → p ≡ n + a → q ≡ m + b → a * d ≤ b * c
    go a b e g = omega (arith, ap (λ (z : ℕ). z * d) e, ap (λ (z : ℕ). z * c) g)

no_factor_lem : (a d : ℕ) → 0 < d → a * d ≤ 0 → a ≡ 0
no_factor_lem a d D h = elim (eq-zero-or-pos a) [ inl z ↦ z | inr p ↦ absurd (omega (arith, mul-pos p D)) ]

pub rounds_order : (f : Format) (x y : Float) (p n c q m d : ℕ) → 0 < c → 0 < d → Rounds f x p n c → Rounds f y q m d → p * d + m * c ≤ q * c + n * d → T (le x y)
rounds_order f x y p n c q m d C D (inl u) (inl v) h = rw (u.1, v.1) (round_mono f (p - n) c (q - m) d C D (less p n c q m d u.0 v.0 h))
rounds_order f x y p n c q m d C D (inl u) (inr v) h =
    let z = both (p - n) (m - q) (omega arith) (omega arith) in
    rw (u.1, v.1) (zeros_equal f (p - n) c (m - q) d C D z.0 z.1)
  where
    both : (a b : ℕ) → p ≡ n + a → m ≡ q + b → (a ≡ 0) × (b ≡ 0)
    both a b e g =
        let l = ap (λ (z : ℕ). z * d) e in
        let r = ap (λ (z : ℕ). z * c) g in
        (no_factor_lem a d D (omega (arith, l, r)), no_factor_lem b c C (omega (arith, l, r)))
rounds_order f x y p n c q m d C D (inr u) (inl v) h = rw (u.1, v.1) (negative_below f (n - p) c (q - m) d C D)
rounds_order f x y p n c q m d C D (inr u) (inr v) h =
    rw (u.1, v.1) (round_neg_order f (m - q) d (n - p) c (round_mono f (m - q) d (n - p) c D C (less m q d n p c v.0 u.0 (omega arith))))

-- ---- sums
pub add_rounds : (f : Format) (x y : Float) → T (finite x) → T (finite y)
    → Rounds f (add f x y) (credit x * den y + credit y * den x) (debit x * den y + debit y * den x) (den x * den y)
unfolding add
add_rounds f nan y p q = absurd p
add_rounds f (inf s) y p q = absurd p
add_rounds f (fin s m e) nan p q = absurd q
add_rounds f (fin s m e) (inf t) p q = absurd q
add_rounds f (fin s m e) (fin t n d) p q =
    rw (← times (not s), ← times (not t), ← times s, ← times t) (sum_rounds f s (m * up e * down d) t (n * up d * down e) (down e * down d))

pub sub_rounds : (f : Format) (x y : Float) → T (finite x) → T (finite y)
    → Rounds f (sub f x y) (credit x * den y + debit y * den x) (debit x * den y + credit y * den x) (den x * den y)
unfolding sub neg
sub_rounds f x nan p q = absurd q
sub_rounds f x (inf t) p q = absurd q
sub_rounds f x (fin true n d) p q = add_rounds f x (fin false n d) p tt
sub_rounds f x (fin false n d) p q = add_rounds f x (fin true n d) p tt

-- ---- quotients by a number above 0
quotient : (f : Format) (s : Bool) (m : ℕ) (e : ℤ) (n : ℕ) (d : ℤ) → 0 < n
    → div f (fin s m e) (fin false n d) ≡ round f (unlike s false) (m * up e * down d) (n * up d * down e)
unfolding div
quotient f s m e n d p = rw (ne_eqb n 0 (λ z. omega arith))

pub div_rounds : (f : Format) (x y : Float) → T (finite x) → T (positive y) → Rounds f (div f x y) (credit x * den y) (debit x * den y) (credit y * den x)
div_rounds f nan y p q = absurd p
div_rounds f (inf s) y p q = absurd p
div_rounds f (fin s m e) nan p q = absurd q
div_rounds f (fin s m e) (inf t) p q = absurd q
div_rounds f (fin s m e) (fin true n d) p q = absurd q
div_rounds f (fin true m e) (fin false n d) p q =
    inr (omega arith, quotient f true m e n d (ltb→lt 0 n q) ∙ ap (λ (k : ℕ). round f true k (n * up d * down e)) (omega arith))
div_rounds f (fin false m e) (fin false n d) p q =
    inl (omega arith, quotient f false m e n d (ltb→lt 0 n q) ∙ ap (λ (k : ℕ). round f false k (n * up d * down e)) (omega arith))

-- ---- products by a number above 0
pub mul_rounds : (f : Format) (k x : Float) → T (positive k) → T (finite x) → Rounds f (mul f k x) (credit k * credit x) (credit k * debit x) (den k * den x)
unfolding mul
mul_rounds f nan x q p = absurd q
mul_rounds f (inf s) x q p = absurd q
mul_rounds f (fin true n d) x q p = absurd q
mul_rounds f (fin false n d) nan q p = absurd p
mul_rounds f (fin false n d) (inf t) q p = absurd p
mul_rounds f (fin false n d) (fin true m e) q p = inr (omega arith, ap (λ (k : ℕ). round f true k (down d * down e)) (omega arith))
mul_rounds f (fin false n d) (fin false m e) q p = inl (omega arith, ap (λ (k : ℕ). round f false k (down d * down e)) (omega arith))
