-- What crates above may use of the square root: it is above 0 where x is, it has no sign but that of -0, and it grows with x.
use mathlib.Core.Path.{◌≡◌, refl}
use mathlib.Core.Logic.{◌⊎◌, inl, inr}
use Prim.Native.Nat.{ℕ, zero, suc, ◌+◌, ◌*◌, ◌^◌, ◌≤◌}
use native.Mathlib.Nat.{le_trans, zero-lt-suc, add-le-add, le_refl, mul-le-mul_left, mul-le-mul_right}
use mathlib.Core.Bool.{true, false}
use lib.Dec.{T, ltb, lt→ltb}
use lib.IntN.{pos}
use lib.Pow.{pow_pos}
use lib.Ieee.{Float, nan, inf, fin, binary32, le, fits}
use lib.Ieee.Order.{round_mono}
use lib.Ieee.Positive.{positive}
use Rattle.std.specs.Float.{float_with_sign}
use Rattle.numeric.specs.Float.{mag}
use Rattle.root.specs.Root.{root, square, sqrt_of}
use Rattle.root.proofs.Nearest.{root_of_lem}
use Rattle.root.proofs.Whole.{root_is, root_ge}
use Rattle.numeric.proofs.Steps.{steps_injective, zero-steps}
use Rattle.numeric.proofs.rounding.Truncation.{truncated_mono}

above : (m : ℕ) → T (ltb 0 (suc m))
above m = lt→ltb 0 (suc m) (zero-lt-suc m)

pub sqrt_positive_lem : (x : Float) → T (fits binary32 x) → T (positive x) → T (positive (sqrt_of x))
sqrt_positive_lem x f p = (root_of_lem x f p).above_zero

-- ---- the sign
clear : (y : Float) → T (positive y) → mag y ≡ y
unfolding float_with_sign
clear nan p = absurd p
clear (inf s) p = absurd p
clear (fin true m e) p = absurd p
clear (fin false m e) p = refl

minus-zero-held : T (fits binary32 (fin true 0 (pos 0)))
unfolding fits
minus-zero-held = tt

-- the root has no sign, unless x is -0
pub sqrt_clear : (x : Float) → T (fits binary32 x) → (mag (sqrt_of x) ≡ sqrt_of x) ⊎ (x ≡ fin true 0 (pos 0))
unfolding sqrt_of float_with_sign
sqrt_clear nan f = inl refl
sqrt_clear (inf true) f = inl refl
sqrt_clear (inf false) f = inl refl
sqrt_clear (fin true zero e) f = inr (steps_injective true 0 e 0 (pos 0) f minus-zero-held (zero-steps true e))
sqrt_clear (fin false zero e) f = inl refl
sqrt_clear (fin true (suc m) e) f = inl refl
sqrt_clear (fin false (suc m) e) f = inl (clear (sqrt_of (fin false (suc m) e)) (sqrt_positive_lem (fin false (suc m) e) f (above m)))

-- ---- the order
root_mono : (a b : ℕ) → a ≤ b → root a ≤ root b
root_mono a b h = root_ge (root a) b (le_trans (root_is a).0 h)

pub sqrt_mono : (x y : Float) → T (positive x) → T (positive y) → T (le x y) → T (le (sqrt_of x) (sqrt_of y))
unfolding sqrt_of
sqrt_mono nan y p q h = absurd p
sqrt_mono (inf s) y p q h = absurd p
sqrt_mono (fin true m e) y p q h = absurd p
sqrt_mono (fin false zero e) y p q h = absurd p
sqrt_mono (fin false (suc m) e) nan p q h = absurd q
sqrt_mono (fin false (suc m) e) (inf t) p q h = absurd q
sqrt_mono (fin false (suc m) e) (fin true n d) p q h = absurd q
sqrt_mono (fin false (suc m) e) (fin false zero d) p q h = absurd q
sqrt_mono (fin false (suc m) e) (fin false (suc n) d) p q h =
    let x = fin false (suc m) e in
    let y = fin false (suc n) d in
    let r : root (square x) ≤ root (square y) = root_mono (square x) (square y) (mul-le-mul_right (2 ^ 151) (truncated_mono 149 x y p q h)) in
    round_mono binary32 (2 * root (square x) + 1) (2 ^ 151) (2 * root (square y) + 1) (2 ^ 151) (pow_pos 151) (pow_pos 151)
    (mul-le-mul_right (2 ^ 151) (add-le-add (mul-le-mul_left 2 r) (le_refl 1)))
