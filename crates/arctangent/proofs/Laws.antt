-- What crates above may use of atan: it is odd, and a NaN for a NaN alone.
use mathlib.Core.Path.{◌≡◌, refl}
use mathlib.Core.Bool.{false}
use lib.Ieee.{Float, nan, inf, fin, is_nan, neg, lt}
use Rattle.std.specs.Float.{float_with_sign}
use Rattle.numeric.proofs.Domains.{either, signed}
use Rattle.numeric.proofs.rounding.Laws.{F-number}
use Rattle.arctangent.specs.Arctangent.{one, atan_of, atan_of_size}
use Rattle.arctangent.proofs.Angles as Angles

pub atan_odd : (x : Float) → atan_of (neg x) ≡ neg (atan_of x)
atan_odd = Angles.atan_odd

size_number : (a : Float) → is_nan (atan_of_size a) ≡ false
unfolding atan_of_size
size_number a = either (lt one a) _ _ (F-number _) (F-number _)

pub atan_domain : (a : Float) → is_nan (atan_of a) ≡ is_nan a
unfolding atan_of is_nan float_with_sign
atan_domain nan = refl
atan_domain (inf s) = signed s (atan_of_size (inf false)) (size_number (inf false))
atan_domain (fin s m e) = signed s (atan_of_size (fin false m e)) (size_number (fin false m e))
