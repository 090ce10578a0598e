-- Which of +0 and -0 is taken from a number matters where that number is -0 alone.
use mathlib.Core.Path.{◌≡◌, refl, sym, ◌∙◌}
use mathlib.Core.Bool.{Bool, true, false, not, true≢false}
use Prim.Native.Nat.{zero, suc}
use native.Mathlib.Nat.{zero-mul}
use lib.Ieee.{Float, nan, inf, fin, binary32, sum, add, sub, neg}
use Rattle.floats.specs.Ops.{◌⊖◌, ◌⊕◌, zero±}
use Rattle.floats.proofs.Opposites.{plus-zero-fin, zero-plus-zero}

abbrev pub minus_zero : Float → Bool
minus_zero nan = false
minus_zero (inf s) = false
minus_zero (fin false m e) = false
minus_zero (fin true zero e) = true
minus_zero (fin true (suc m) e) = false

plus-zero : (x : Float) (s : Bool) → minus_zero x ≡ false → x ⊕ zero± s ≡ x ⊕ zero± false
unfolding add sum
plus-zero nan s n = refl
plus-zero (inf t) s n = refl
plus-zero (fin true zero e) s n = absurd (true≢false n)
plus-zero (fin true (suc m) e) s n = plus-zero-fin binary32 true s m e ∙ sym (plus-zero-fin binary32 true false m e)
plus-zero (fin false (suc m) e) s n = plus-zero-fin binary32 false s m e ∙ sym (plus-zero-fin binary32 false false m e)
plus-zero (fin false zero e) true n = rw (zero-mul, zero-mul)
plus-zero (fin false zero e) false n = refl

-- a number but -0 less either zero
pub less_zero : (x : Float) (s t : Bool) → minus_zero x ≡ false → x ⊖ zero± s ≡ x ⊖ zero± t
unfolding sub neg
less_zero x s t n = plus-zero x (not s) n ∙ sym (plus-zero x (not t) n)

-- -0 less either zero is a zero, of the other sign
pub minus_zero_less : (s : Bool) → zero± true ⊖ zero± s ≡ zero± (not s)
unfolding sub neg
minus_zero_less s = zero-plus-zero binary32 true (not s)
