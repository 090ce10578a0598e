-- Where the exact sums lie, so that the cut to 0..2^30 takes nothing off them but a few units: sums of terms that fall, against 0 and the first term; and
-- against their values at the quarter turn, to first order in t * t for the cosine and to second order in t for the sine.
use mathlib.Core.Path.{◌≡◌, sym, ap, subst}
use Prim.Native.Nat.{ℕ, zero, suc, ◌+◌, ◌*◌, ◌^◌, ◌≤◌}
use native.Mathlib.Nat.{mul-le-mul, mul-le-mul_right, mul-le-mul_left, le_dest}
use native.Mathlib.Omega.{arith}
use lib.Dec.{lit≤}
use Rattle.sine.specs.Sine.{weight, denominator, exact_sums}
use Rattle.sine.specs.Inner.{quarter_turn}

-- 4 t t is at most the weight from j = 3 on
steep : (t j : ℕ) → t ≤ quarter_turn → 3 ≤ j → 4 * (t * t) ≤ weight j
steep t j T J =
    let d : 3 * 4 ≤ j * (j + 1) = mul-le-mul {n₁ = 3} {m₁ = 4} J (omega arith) in
    omega (arith, mul-le-mul T T, d)

falls : (t j : ℕ) → t ≤ quarter_turn → 2 ≤ j → t * t ≤ weight j
falls t j T J =
    let d : 2 * 3 ≤ j * (j + 1) = mul-le-mul {n₁ = 2} {m₁ = 3} J (omega arith) in
    omega (arith, mul-le-mul T T, d)

-- ---- terms that fall: the sum lies between 0 and the first term
shrinks : (a z W M A B : ℕ) → z ≤ W → B ≤ A → A ≤ B + a * z * M → (A ≤ a * (W * M) + B) × (a * (W * M) + B ≤ A + a * (W * M))
shrinks a z W M A B h k l = (omega (arith, mul-le-mul_right M (mul-le-mul_left a h)), omega arith)

alternates : (t j n a : ℕ) → t ≤ quarter_turn → 2 ≤ j
    → ((exact_sums t j n a).1 ≤ (exact_sums t j n a).0) × ((exact_sums t j n a).0 ≤ (exact_sums t j n a).1 + a * denominator j n)
unfolding exact_sums denominator
alternates t j zero a T J = (omega arith, omega arith)
alternates t j (suc n) a T J =
    let i = alternates t (j + 2) n (a * t * t) T (omega arith) in
    shrinks a (t * t) (weight j) (denominator (j + 2) n) (exact_sums t (j + 2) n (a * t * t)).0 (exact_sums t (j + 2) n (a * t * t)).1 (falls t j T J) i.0
    (omega (arith, i.1))

-- ---- first order: where each term grows at least as t t does, so does the sum, and no faster than its first term
-- K: the growth of the next term, over the weight, is at most that of this one
growth : (a p z y W : ℕ) → z ≤ y → 2 * y ≤ W → y * a ≤ (a + p) * z → (a + p) * y + a * W ≤ a * z + (a + p) * W
growth a p z y W h k l = omega (arith, mul-le-mul_left p h, mul-le-mul_left p k)

-- A B at t, C E at s
record Grows (a c D A B C E : ℕ) : Type 0 where
  up : A + E ≤ C + B
  slow : C + B + a * D ≤ A + E + c * D

grows_step : (a c z y W M A B C E : ℕ) → c * y + a * W ≤ a * z + c * W → Grows (a * z) (c * y) M A B C E → Grows a c (W * M) (a * (W * M) + B) A (c * (W * M) + E) C
grows_step a c z y W M A B C E k i = record { up = omega (arith, mul-le-mul_right M k, i.slow); slow = omega (arith, i.up) }

growth_of : (a c z y W : ℕ) → a ≤ c → z ≤ y → 2 * y ≤ W → y * a ≤ c * z → c * y + a * W ≤ a * z + c * W
growth_of a c z y W h k l m =
    let p = le_dest h in
    subst (λ (x : ℕ). x * y + a * W ≤ a * z + x * W) p.1 (growth a p.0 z y W k l (subst (λ (x : ℕ). y * a ≤ x * z) (sym p.1) m))

grows : (t s j n a c : ℕ) → t ≤ s → s ≤ quarter_turn → 3 ≤ j → a ≤ c → s * s * a ≤ c * (t * t)
    → Grows a c (denominator j n) (exact_sums t j n a).0 (exact_sums t j n a).1 (exact_sums s j n c).0 (exact_sums s j n c).1
unfolding exact_sums denominator
grows t s j zero a c S Q J h k = record { up = omega arith; slow = omega arith }
grows t s j (suc n) a c S Q J h k =
    let z : t * t ≤ s * s = mul-le-mul S S in
    let i = grows t s (j + 2) n (a * t * t) (c * s * s) S Q (omega arith) (omega (arith, mul-le-mul h z)) (omega (arith, mul-le-mul_right (s * s * (t * t)) h)) in
    grows_step a c (t * t) (s * s) (weight j) (denominator (j + 2) n) _ _ _ _ (growth_of a c (t * t) (s * s) (weight j) h z (omega (arith, steep s j Q J)) k)
    (record { up = i.up; slow = omega (arith, i.slow) })

-- ---- the cosine's exact sum: at most its first term, and at least what it is at the quarter turn
at-most-first : (t j n p : ℕ) → t ≤ quarter_turn → 1 ≤ j → (exact_sums t j (suc n) p).0 ≤ (exact_sums t j (suc n) p).1 + p * denominator j (suc n)
unfolding exact_sums
at-most-first t j n p T J = omega (arith, (alternates t (j + 2) n (p * t * t) T (omega arith)).0)

least_at_end : (t s j n p : ℕ) → t ≤ s → s ≤ quarter_turn → 1 ≤ j
    → (exact_sums t j (suc n) p).1 + (exact_sums s j (suc n) p).0 ≤ (exact_sums s j (suc n) p).1 + (exact_sums t j (suc n) p).0
unfolding exact_sums
least_at_end t s j n p S Q J =
    let z : t * t ≤ s * s = mul-le-mul S S in
    let i = grows t s (j + 2) n (p * t * t) (p * s * s) S Q (omega arith) (omega (arith, mul-le-mul_left p z)) (omega arith) in
    omega (arith, i.up)

-- ---- second order: the terms against their tangents at s = t + h
-- The slopes at s, over the denominator: of a term a with the slope b, the next, a s s, has the slope b s s + 2 s a
unfoldable slopes : ℕ → ℕ → ℕ → ℕ → ℕ → ℕ × ℕ
slopes s j zero a b = (b, 0)
slopes s j (suc n) a b = let r = slopes s (j + 2) n (a * s * s) (b * s * s + 2 * (s * a)) in (b * denominator j (suc n) + r.1, r.0)

-- a term x at t, of value a and slope b at s, lies r above its tangent; so does the next one, by this much
abbrev lift : ℕ → ℕ → ℕ → ℕ → ℕ → ℕ → ℕ
lift t s h a b r = h * h * (a + b * (s + t)) + r * (t * t)

tangent : (t h x a b r : ℕ) → x + b * h ≡ a + r
    → x * t * t + (b * (t + h) * (t + h) + 2 * ((t + h) * a)) * h ≡ a * (t + h) * (t + h) + lift t (t + h) h a b r
tangent t h x a b r e = omega (arith, ap (λ (z : ℕ). z * (t * t)) e)

-- the lift is at most 3 s s times the last, which goes on, and so, over the weight, it falls
lift_le : (t s h a b r W : ℕ) → t ≤ s → 4 * (s * s) ≤ W → h * h * (a + b * (s + t)) ≤ 3 * (s * s) * r → lift t s h a b r ≤ r * W
lift_le t s h a b r W S k l = omega (arith, mul-le-mul_right r (mul-le-mul S S), mul-le-mul_right r k)

lift_on : (t s h a b r : ℕ) → a ≤ b * s → h * h * (a * s * s + (b * s * s + 2 * (s * a)) * (s + t)) ≤ 3 * (s * s) * lift t s h a b r
lift_on t s h a b r k = omega (arith, mul-le-mul_right (t * (h * h * s)) k)

slope-on : (s a b : ℕ) → a * s * s ≤ (b * s * s + 2 * (s * a)) * s
slope-on s a b = omega arith

-- x, b and a each as the sum that is added and the sum that is taken away
record Bends (h r D : ℕ) (x b a : ℕ × ℕ) : Type 0 where
  over : a.0 + x.1 + h * b.1 ≤ x.0 + h * b.0 + a.1
  under : x.0 + h * b.0 + a.1 ≤ a.0 + x.1 + h * b.1 + r * D

bends_step : (h r q W M x b a : ℕ) (X B A : ℕ × ℕ) → x + b * h ≡ a + r → q ≤ r * W → Bends h q M X B A
    → Bends h r (W * M) (x * (W * M) + X.1, X.0) (b * (W * M) + B.1, B.0) (a * (W * M) + A.1, A.0)
bends_step h r q W M x b a X B A e k i = record {
  over = omega (arith, ap (λ (z : ℕ). z * (W * M)) e, mul-le-mul_right M k, i.under);
  under = omega (arith, ap (λ (z : ℕ). z * (W * M)) e, i.over);
}

bends : (t h j n x a b r : ℕ) → t + h ≤ quarter_turn → 3 ≤ j → x + b * h ≡ a + r → a ≤ b * (t + h) → h * h * (a + b * (t + h + t)) ≤ 3 * ((t + h) * (t + h)) * r
    → Bends h r (denominator j n) (exact_sums t j n x) (slopes (t + h) j n a b) (exact_sums (t + h) j n a)
unfolding exact_sums slopes denominator
bends t h j zero x a b r Q J e k l = record { over = omega arith; under = omega arith }
bends t h j (suc n) x a b r Q J e k l =
    let s = t + h in
    bends_step h r (lift t s h a b r) (weight j) (denominator (j + 2) n) x b a _ _ _ e (lift_le t s h a b r (weight j) (omega arith) (steep s j Q J) l)
    (bends t h (j + 2) n (x * t * t) (a * s * s) (b * s * s + 2 * (s * a)) (lift t s h a b r) Q (omega arith) (tangent t h x a b r e) (slope-on s a b) (lift_on t s h a b r k))

-- ---- the sine's exact sum lies under its tangent at s, and so near 1 where that is flat there
under_tangent : (t h j n : ℕ) → t + h ≤ quarter_turn → 1 ≤ j
    → (exact_sums t j (suc n) t).0 + h * (slopes (t + h) j (suc n) (t + h) 1).0 + (exact_sums (t + h) j (suc n) (t + h)).1
    ≤ (exact_sums (t + h) j (suc n) (t + h)).0 + (exact_sums t j (suc n) t).1 + h * (slopes (t + h) j (suc n) (t + h) 1).1
unfolding exact_sums slopes
under_tangent t h j n Q J =
    let s = t + h in
    let i =
    bends t h (j + 2) n (t * t * t) (s * s * s) (1 * s * s + 2 * (s * s)) (lift t s h s 1 0) Q (omega arith) (tangent t h t s 1 0 (omega arith)) (slope-on s s 1)
    (lift_on t s h s 1 0 (omega arith)) in
    omega (arith, i.over)

flat : (h D : ℕ) (X B A : ℕ × ℕ) → h ≤ 2 ^ 31 → 2 ^ 30 * B.1 ≤ 2 ^ 30 * B.0 + D → A.0 ≤ A.1 + (2 ^ 30 + 1) * D
    → X.0 + h * B.0 + A.1 ≤ A.0 + X.1 + h * B.1 → X.0 ≤ X.1 + (2 ^ 30 + 8) * D
flat h D X B A H k l m = omega (arith, mul-le-mul_left h k, mul-le-mul_right D H)

-- at the quarter turn, by computation
slope-small : 2 ^ 30 * (slopes quarter_turn 2 7 quarter_turn 1).1 ≤ 2 ^ 30 * (slopes quarter_turn 2 7 quarter_turn 1).0 + denominator 2 7
unfolding slopes denominator
slope-small = lit≤ tt

sine_end : (exact_sums quarter_turn 2 7 quarter_turn).0 ≤ (exact_sums quarter_turn 2 7 quarter_turn).1 + (2 ^ 30 + 1) * denominator 2 7
unfolding exact_sums denominator
sine_end = lit≤ tt

cosine_end : (exact_sums quarter_turn 1 8 (2 ^ 30)).1 ≤ (exact_sums quarter_turn 1 8 (2 ^ 30)).0
unfolding exact_sums denominator
cosine_end = lit≤ tt

pub sine-at-most : (t : ℕ) → t ≤ quarter_turn → (exact_sums t 2 7 t).0 ≤ (exact_sums t 2 7 t).1 + (2 ^ 30 + 8) * denominator 2 7
sine-at-most t T =
    let h = le_dest T in
    flat h.0 (denominator 2 7) (exact_sums t 2 7 t) (slopes (t + h.0) 2 7 (t + h.0) 1) (exact_sums (t + h.0) 2 7 (t + h.0)) (omega (arith, h.1))
    (subst (λ (s : ℕ). 2 ^ 30 * (slopes s 2 7 s 1).1 ≤ 2 ^ 30 * (slopes s 2 7 s 1).0 + denominator 2 7) (sym h.1) slope-small)
    (subst (λ (s : ℕ). (exact_sums s 2 7 s).0 ≤ (exact_sums s 2 7 s).1 + (2 ^ 30 + 1) * denominator 2 7) (sym h.1) sine_end)
    (under_tangent t h.0 2 6 (omega (arith, h.1)) (omega arith))

pub sine-at-least : (t : ℕ) → t ≤ quarter_turn → (exact_sums t 2 7 t).1 ≤ (exact_sums t 2 7 t).0
sine-at-least t T = (alternates t 2 7 t T (omega arith)).0

pub cosine-at-most : (t : ℕ) → t ≤ quarter_turn → (exact_sums t 1 8 (2 ^ 30)).0 ≤ (exact_sums t 1 8 (2 ^ 30)).1 + 2 ^ 30 * denominator 1 8
cosine-at-most t T = at-most-first t 1 7 (2 ^ 30) T (omega arith)

past_end : (X A : ℕ × ℕ) → A.1 ≤ A.0 → X.1 + A.0 ≤ A.1 + X.0 → X.1 ≤ X.0
past_end X A h k = omega arith

pub cosine-at-least : (t : ℕ) → t ≤ quarter_turn → (exact_sums t 1 8 (2 ^ 30)).1 ≤ (exact_sums t 1 8 (2 ^ 30)).0
cosine-at-least t T = past_end (exact_sums t 1 8 (2 ^ 30)) (exact_sums quarter_turn 1 8 (2 ^ 30)) cosine_end (least_at_end t quarter_turn 1 7 (2 ^ 30) T (omega arith) (omega arith))
