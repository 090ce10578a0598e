-- Hundredths are the nearest to the float's exact value, numerator x / den x, halves go away from zero, and they keep the order of floats. A NaN and an infinity count as 0. Assumes nothing.
use mathlib.Core.Path.{◌≡◌, refl, sym, ap, ◌∙◌}
use Prim.Native.Nat.{ℕ, ◌+◌, ◌*◌, ◌/◌, ◌%◌, ◌≤◌, ◌<◌}
use native.Mathlib.Nat.{le_refl, le_of_eq, le_of_lt, mul-pos, zero-mul, mod-lt, div-add-mod', div-eq_of_lt-le, eq_of_mul-eq-mul_right}
use native.Mathlib.Omega.{arith}
use mathlib.Core.Bool.{Bool, true, false, ◌&&◌, ◌||◌, true≢false}
use borrow.Author.Tests.{ltb-true, eqb-true}
use lib.Dec.{T, ltb, eqb, lit<}
use lib.IntN.{ℤ, pos, nat_abs, ◌-ℤ◌, ◌*ℤ◌}
use lib.Signed.{◌≤ℤ◌}
use lib.Ieee.{Float, nan, inf, fin, le}
use lib.Ieee.Nearest.{div_mono}
use lib.Ieee.Positive.{num, den, den_pos}
use lib.Ieee.Scale.{finite}
use Rattle.numeric.specs.Float.{sign_bit}
use Rattle.hundredths.specs.Hundredths.{signed, size_of, hundredths_of}
use Rattle.hundredths.proofs.Integers as Z

-- x is exactly numerator x / den x
abbrev pub numerator : Float → ℤ
numerator x = signed (sign_bit x) (num x)

twice-den : (x : Float) → 0 < 2 * den x
twice-den x = mul-pos (lit< tt) (den_pos x)

-- ---- the size: k - 1/2 ≤ 100 |x| < k + 1/2, both sides times 2 den x, and no other k is so
pub size_near : (x : Float) → let k = size_of x in (2 * k * den x ≤ 200 * num x + den x) × (200 * num x < (2 * k + 1) * den x)
unfolding size_of
size_near x =
    let w = 2 * den x in
    let y = 200 * num x + den x in
    let e : y / w * w + y % w ≡ y = div-add-mod' y w in
    let l : y % w < w = mod-lt y (twice-den x) in
    (omega arith, omega arith)

pub size-only : (x : Float) (k : ℕ) → 2 * k * den x ≤ 200 * num x + den x → 200 * num x < (2 * k + 1) * den x → size_of x ≡ k
unfolding size_of
size-only x k h l = div-eq_of_lt-le (2 * den x) (omega arith) (omega arith)

-- ---- the hundredths
-- |100 x - h| ≤ 1/2, both sides times 2 den x
pub nearest : (x : Float) → nat_abs (pos 200 *ℤ numerator x -ℤ pos 2 *ℤ hundredths_of x *ℤ pos (den x)) ≤ den x
unfolding hundredths_of
nearest x =
    let s = sign_bit x in
    let k = size_of x in
    let n = size_near x in
    rw (Z.times s 200 (num x), Z.times s 2 k, Z.times-right s (2 * k) (den x)) (Z.within s (200 * num x) (2 * k * den x) (den x) (omega arith) (omega arith))

-- where 100 |x| is half way between k and k + 1, it becomes k + 1, with x's sign
pub tie_away : (x : Float) (k : ℕ) → 200 * num x ≡ (2 * k + 1) * den x → hundredths_of x ≡ signed (sign_bit x) (k + 1)
unfolding hundredths_of
tie_away x k e = ap (signed (sign_bit x)) (size-only x (k + 1) (omega arith) (omega (arith, den_pos x)))

-- ---- the order
size_mono : (x y : Float) → num x * den y ≤ num y * den x → size_of x ≤ size_of y
unfolding size_of
size_mono x y h =
    div_mono (200 * num x + den x) (2 * den x) (200 * num y + den y) (2 * den y) (twice-den x) (twice-den y) (omega arith)

-- a test of floats, `below` or `level`, told of their sizes
le_or : (a b p q : ℕ) (u : Bool) → (p ≡ q → a ≤ b) → (ltb a b || (eqb p q && u)) ≡ true → a ≤ b
le_or a b p q u f = go (ltb a b) (eqb p q) (ltb-true a b) (eqb-true p q)
  where
    go : (t v : Bool) → (t ≡ true → a < b) → (v ≡ true → p ≡ q) → (t || (v && u)) ≡ true → a ≤ b
    go true v l e h = le_of_lt (l refl)
    go false true l e h = f (e refl)
    go false false l e h = absurd (true≢false (sym h))

both_zero : (p q : ℕ) → (eqb p q && eqb p 0) ≡ true → (p ≡ 0) × (q ≡ 0)
both_zero p q = go (eqb p q) (eqb p 0) (eqb-true p q) (eqb-true p 0)
  where
    go : (t v : Bool) → (t ≡ true → p ≡ q) → (v ≡ true → p ≡ 0) → (t && v) ≡ true → (p ≡ 0) × (q ≡ 0)
    go true true e z h = (z refl, sym (e refl) ∙ z refl)
    go true false e z h = absurd (true≢false (sym h))
    go false v e z h = absurd (true≢false (sym h))

no_size : (x : Float) (d : ℕ) → 0 < d → num x * d ≡ 0 → size_of x ≡ 0
no_size x d D e =
    let z : num x ≡ 0 = eq_of_mul-eq-mul_right d D (num x) 0 (e ∙ sym (zero-mul d)) in
    size-only x 0 (omega arith) (omega (arith, den_pos x))

pub order : (x y : Float) → T (finite x) → T (finite y) → le x y ≡ true → hundredths_of x ≤ℤ hundredths_of y
unfolding hundredths_of le
order nan y f g h = absurd f
order (inf s) y f g h = absurd f
order (fin s m e) nan f g h = absurd g
order (fin s m e) (inf t) f g h = absurd g
order (fin false m e) (fin false n d) f g h = Z.up _ _ (size_mono (fin false m e) (fin false n d) (le_or _ _ _ _ _ le_of_eq h))
order (fin false m e) (fin true n d) f g h =
    let x = fin false m e in
    let y = fin true n d in
    let z = both_zero (num x * den y) (num y * den x) h in
    rw (no_size x (den y) (den_pos y) z.0, no_size y (den x) (den_pos x) z.1) (Z.up 0 0 (le_refl 0))
order (fin true m e) (fin false n d) f g h = Z.across (size_of (fin true m e)) (size_of (fin false n d))
order (fin true m e) (fin true n d) f g h = Z.down (size_of (fin true m e)) (size_of (fin true n d)) (size_mono (fin true n d) (fin true m e) (le_or _ _ _ _ _ (λ q. le_of_eq (sym q)) h))
