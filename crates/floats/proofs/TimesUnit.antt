-- A complex number times 1 + 0i: each part is the number's own, or both are zeros.
use mathlib.Core.Path.{◌≡◌, refl, sym, subst, ◌∙◌}
use mathlib.Core.Bool.{Bool, true, false, not, ◌&&◌, cond, beq, false≢true}
use Prim.Native.Nat.{ℕ, zero, suc, ◌-◌, ◌*◌}
use native.Mathlib.Nat.{zero-mul, mul-zero, mul-one, mul-pos, add_comm, mul_comm}
use native.Mathlib.Omega.{arith}
use borrow.Author.Tests.{ltb-true, ltb-false}
use lib.Dec.{T, ltb}
use lib.IntN.{ℤ}
use lib.Ieee.{Float, nan, inf, fin, Format, binary32, unlike, round, neg, sum, add, sub, mul, fits, up, down}
use lib.Ieee.Fits.{down_pos}
use lib.Ieee.Scale.{finite}
use Rattle.numeric.proofs.Laws.{neg-neg}
use Rattle.floats.specs.Ops.{◌⊕◌, ◌⊖◌, ◌⊗◌, +0, +0_is, zero±}
use Rattle.floats.specs.Literals.{one}
use Rattle.floats.specs.Opposite.{Opposite, negated, zeros}
use Rattle.floats.proofs.Opposites.{round-zero, zero-plus-zero, plus-zero-fin}
use Rattle.floats.proofs.TimesOne.{rounded, times-one}

-- ---- sums in either order

module _ (f : Format) (a b c : ℕ) where
  unlike_signs : (p q : Bool) → ltb a b ≡ p → ltb b a ≡ q
      → cond p (round f true (b - a) c) (round f false (a - b) c) ≡ cond q (round f false (a - b) c) (round f (true && p) (b - a) c)
  unlike_signs true true x y = let l = ltb-true a b x in absurd (omega (arith, ltb-true b a y))
  unlike_signs true false x y = refl
  unlike_signs false true x y = refl
  unlike_signs false false x y = let e : a - b ≡ b - a = omega (arith, ltb-false a b x, ltb-false b a y) in rw e

sum_comm : (f : Format) (s t : Bool) (a b c : ℕ) → sum f s a t b c ≡ sum f t b s a c
unfolding sum
sum_comm f true true a b c = rw add_comm
sum_comm f true false a b c = sym (unlike_signs f b a c _ _ refl refl)
sum_comm f false true a b c = unlike_signs f a b c _ _ refl refl
sum_comm f false false a b c = rw add_comm

beq_comm : (s t : Bool) → cond (beq s t) (inf s) nan ≡ cond (beq t s) (inf t) nan
beq_comm true true = refl
beq_comm true false = refl
beq_comm false true = refl
beq_comm false false = refl

pub plus_comm : (f : Format) (x y : Float) → add f x y ≡ add f y x
unfolding add
plus_comm f nan nan = refl
plus_comm f nan (inf t) = refl
plus_comm f nan (fin t n d) = refl
plus_comm f (inf s) nan = refl
plus_comm f (inf s) (inf t) = beq_comm s t
plus_comm f (inf s) (fin t n d) = refl
plus_comm f (fin s m e) nan = refl
plus_comm f (fin s m e) (inf t) = refl
plus_comm f (fin s m e) (fin t n d) = sum_comm f s t (m * up e * down d) (n * up d * down e) (down e * down d) ∙ rw (mul_comm (down e) (down d))

-- ---- nothing added

zero_is : (s : Bool) (e : ℤ) → T (fits binary32 (fin s 0 e)) → fin s 0 e ≡ zero± s
zero_is s e h = sym (rounded s 0 e h) ∙ round-zero binary32 s (0 * up e) (down e) (zero-mul (up e)) (down_pos e)

-- x with a zero added is x, or both are zeros
plus-nothing : (x : Float) → T (fits binary32 x) → (s : Bool) → Opposite (neg x) (x ⊕ zero± s)
unfolding add neg
plus-nothing nan h s = negated refl
plus-nothing (inf true) h s = negated refl
plus-nothing (inf false) h s = negated refl
plus-nothing (fin t zero e) h s =
    subst (λ (x : Float). Opposite (neg x) (x ⊕ zero± s)) (sym (zero_is t e h)) (zeros (not t) (t && s) refl (zero-plus-zero binary32 t s))
plus-nothing (fin t (suc m) e) h s =
    let same : round binary32 t (suc m * up e * 1) (down e * 1) ≡ fin t (suc m) e = simp mul-one (rounded t (suc m) e h) in
    negated (plus-zero-fin binary32 t s m e ∙ same ∙ sym (neg-neg (fin t (suc m) e)))

-- ---- the parts
nothing : (y : Float) → finite y ≡ true → (s : Bool) × (y ⊗ +0 ≡ zero± s)
unfolding mul
nothing nan h = absurd (false≢true h)
nothing (inf t) h = absurd (false≢true h)
nothing (fin t n d) h = (unlike t false, rw +0_is (round-zero binary32 (unlike t false) (n * up d * (0 * 1)) (down d * 1) (mul-zero (n * up d)) (mul-pos (down_pos d) (omega arith))))

pub times_unit_re : (x y : Float) → T (fits binary32 x) → finite y ≡ true → Opposite (neg x) (x ⊗ one ⊖ y ⊗ +0)
unfolding sub neg
times_unit_re x y h g = let z = nothing y g in rw (times-one x h, z.1) (plus-nothing x h (not z.0))

pub times_unit_im : (x y : Float) → finite x ≡ true → T (fits binary32 y) → Opposite (neg y) (x ⊗ +0 ⊕ y ⊗ one)
times_unit_im x y g h = let z = nothing x g in rw (times-one y h, z.1, plus_comm) (plus-nothing y h z.0)
