-- std's sign of a number and its test for a finite one are those of specs/.
use Rattle.std.proofs.Common.{◌≡◌, Bool, true, false, not, sym, refl, true≢false}
use Rattle.std.specs.Float.{float_is_finite, float_with_sign, is_sign_negative}
use lib.Ieee.{Float, nan, inf, fin, neg, is_nan}
use lib.Ieee.Scale.{finite}
use Rattle.numeric.specs.Float.{sign_bit, with_sign}

pub sign_is : (x : Float) → is_sign_negative x ≡ sign_bit x
unfolding is_sign_negative
sign_is nan = refl
sign_is (inf s) = refl
sign_is (fin s m e) = refl

pub nan_sign : (x : Float) → not (is_nan x) ≡ false → not (is_nan x) ≡ sign_bit x
unfolding is_nan
nan_sign nan e = refl
nan_sign (inf s) e = absurd (true≢false e)
nan_sign (fin s m d) e = absurd (true≢false e)

pub finite_is : (x : Float) → float_is_finite x ≡ finite x
unfolding float_is_finite
finite_is nan = refl
finite_is (inf s) = refl
finite_is (fin s m e) = refl

-- a NaN has no sign to set
pub nan_signed : (x : Float) (s : Bool) → is_nan x ≡ true → x ≡ with_sign x s
unfolding is_nan neg float_with_sign
nan_signed nan true e = refl
nan_signed nan false e = refl
nan_signed (inf t) s e = absurd (true≢false (sym e))
nan_signed (fin t m d) s e = absurd (true≢false (sym e))
