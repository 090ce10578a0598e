-- What a local holds of a saturated cast to an `i32`.
use mathlib.Core.Path.{◌≡◌, sym, ◌∙◌, subst}
use lib.IntN.{ℤ}
use lib.Ieee.{Float, to_signed}
use lib.Ieee.Casts.{to_signed_in}
use mir.Syntax.{w32}
use mir.Val.{SFits, to_z, of_z}
use mir.ValLaws.{to_z-of_z}

pub back : (x : Float) {r : ℤ} → r ≡ to_signed 31 x → to_z w32 (of_z w32 r) ≡ to_signed 31 x
back x {r} e = to_z-of_z w32 r (subst (SFits w32) (sym e) (record { sfits = to_signed_in 31 x })) ∙ e
