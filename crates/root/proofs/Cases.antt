-- What the square root is where it is no rounded number.
use mathlib.Core.Path.{◌≡◌, refl, sym, ◌∙◌}
use Prim.Native.Nat.{ℕ, zero, suc, ◌*◌}
use native.Mathlib.Nat.{le_trans, le_of_eq, not-le_of_lt, zero-mul}
use mathlib.Core.Bool.{Bool, true, false, ◌&&◌, ◌||◌, beq, true≢false, false≢true}
use lib.Dec.{eqb, eqb→eq}
use lib.IntN.{ℤ}
use lib.Ieee.{Float, nan, inf, fin, up, down, lt, eq}
use lib.Ieee.Fits.{and_l}
use borrow.Author.Tests.{ltb-false}
use Rattle.root.specs.Root.{sqrt_of}
use Rattle.numeric.proofs.Comparisons.{holds, null, nothing, some}

-- a zero of either sign equals 0
level-zero : (s : Bool) (e : ℤ) → (eqb (0 * up e * 1) (0 * 1 * down e) && (beq s false || eqb (0 * up e * 1) 0)) ≡ true
level-zero true e = simp zero-mul
level-zero false e = simp zero-mul

not-level : (m : ℕ) (e : ℤ) (s : Bool) → (eqb (suc m * up e * 1) (0 * 1 * down e) && (beq s false || eqb (suc m * up e * 1) 0)) ≡ true → ⊥
not-level m e s p =
    let a = suc m * up e * 1 in
    let same : a ≡ 0 * 1 * down e = eqb→eq a (0 * 1 * down e) (and_l (eqb a (0 * 1 * down e)) (beq s false || eqb a 0) (holds p)) in
    not-le_of_lt (some m e) (le_of_eq (same ∙ nothing (down e)))

-- ---- the root where it is no rounded number
pub sqrt_of_infinity : (x : Float) → lt null x ≡ true → lt x (inf false) ≡ false → x ≡ sqrt_of x
unfolding lt sqrt_of
sqrt_of_infinity nan p q = absurd (false≢true p)
sqrt_of_infinity (inf true) p q = absurd (false≢true p)
sqrt_of_infinity (inf false) p q = refl
sqrt_of_infinity (fin s m e) p q = absurd (true≢false q)

pub sqrt_of_zero : (x : Float) → eq x null ≡ true → x ≡ sqrt_of x
unfolding eq sqrt_of
sqrt_of_zero nan p = absurd (false≢true p)
sqrt_of_zero (inf s) p = absurd (false≢true p)
sqrt_of_zero (fin s zero e) p = refl
sqrt_of_zero (fin s (suc m) e) p = absurd (not-level m e s p)

pub sqrt_of_negative : (x : Float) → lt null x ≡ false → eq x null ≡ false → nan ≡ sqrt_of x
unfolding lt eq sqrt_of
sqrt_of_negative nan p q = refl
sqrt_of_negative (inf true) p q = refl
sqrt_of_negative (inf false) p q = absurd (true≢false p)
sqrt_of_negative (fin s zero e) p q = absurd (true≢false (sym (level-zero s e) ∙ q))
sqrt_of_negative (fin true (suc m) e) p q = refl
sqrt_of_negative (fin false (suc m) e) p q = absurd (not-le_of_lt (some m e) (le_trans (ltb-false (0 * 1 * down e) (suc m * up e * 1) p) (le_of_eq (nothing (down e)))))
