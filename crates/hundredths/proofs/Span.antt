-- What it is to be in span: the test of |x| as the code makes it, and what it tells of x and of its hundredths. Assumes nothing.
use mathlib.Core.Path.{◌≡◌, refl, sym}
use Prim.Native.Nat.{ℕ, ◌*◌, ◌≤◌, ◌<◌}
use native.Mathlib.Nat.{le_of_eq, le_of_lt, le_of_suc-le-suc, div-lt_iff_lt-mul, mul-one}
use native.Mathlib.Omega.{arith}
use mathlib.Core.Bool.{Bool, true, false, ◌&&◌, ◌||◌, true≢false}
use borrow.Author.Tests.{lt-ltb, le-ltb, leb-true, leb-false, eqb-true, eqb-false}
use lib.Dec.{T, leb, ltb, eqb}
use lib.Ieee.{Float, nan, inf, fin, binary32, of_bits, le, up, down}
use lib.Ieee.Positive.{num, den, den_pos}
use lib.Ieee.Scale.{finite}
use Rattle.std.specs.Float.{float_with_sign}
use Rattle.numeric.specs.Float.{mag}
use Rattle.hundredths.specs.Hundredths.{in_span, size_of}

-- 1000.0
abbrev pub thousand : Float
thousand = of_bits binary32 0x447a0000

at_most : (a b : ℕ) → (ltb a b || (eqb a b && true)) ≡ leb a b
at_most a b = go (leb a b) (eqb a b) refl refl
  where
    go : (t u : Bool) → leb a b ≡ t → eqb a b ≡ u → (ltb a b || (u && true)) ≡ t
    go true true l e = rw (le-ltb a b (le_of_eq (sym (eqb-true a b e))))
    go true false l e = rw (lt-ltb a b (omega (arith, leb-true a b l, eqb-false a b e)))
    go false true l e = let n : ⊥ = omega (arith, leb-false a b l, eqb-true a b e) in absurd n
    go false false l e = rw (le-ltb a b (le_of_lt (leb-false a b l)))

pub span_test : (x : Float) → le (mag x) thousand ≡ in_span x
unfolding le of_bits in_span float_with_sign
span_test nan = refl
span_test (inf s) = refl
span_test (fin s m e) = rw (mul-one (m * up e)) (at_most (m * up e) (1000 * down e))

pub in_span_lem : (x : Float) → in_span x ≡ true → T (finite x) × (num x ≤ 1000 * den x)
unfolding in_span
in_span_lem nan h = absurd (true≢false (sym h))
in_span_lem (inf s) h = absurd (true≢false (sym h))
in_span_lem (fin s m e) h = (tt, leb-true (m * up e) (1000 * down e) h)

pub size-le : (x : Float) → in_span x ≡ true → size_of x ≤ 100000
unfolding size_of
size-le x h =
    let d : 0 < den x = den_pos x in
    let n : num x ≤ 1000 * den x = (in_span_lem x h).1 in
    le_of_suc-le-suc ((div-lt_iff_lt-mul {k = 2 * den x} (omega arith)).1 (omega arith))
