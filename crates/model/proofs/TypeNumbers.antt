-- The number of a type is a legal one; a number that isn't is no log-periodic antenna's.
use Rattle.std.proofs.Common.{◌≡◌, ℕ, true, false, refl, arith}
use Rattle.std.proofs.lemmas.Bool.Decides.{nat_tests}
use Rattle.model.specs.Types.{type_ok, log_periodic, type_number}
use Rattle.model.specs.declared.types.AntennaType.{AntennaType}
use Rattle.model.specs.declared.types.AntennaType.TheVariants as types

pub type_stands : (kind : AntennaType) → type_ok (type_number kind) ≡ true
unfolding type_ok
type_stands types.Multiband = refl
type_stands types.CentreFed = refl
type_stands types.EndFed = refl
type_stands types.Tropical = refl
type_stands types.HorizontalLogPeriodic = refl
type_stands types.VerticalLogPeriodic = refl
type_stands types.Rhombic = refl
type_stands types.Quadrant = refl
type_stands types.CrossedDipoles = refl

pub untyped_no_boom : (iant : ℕ) → type_ok iant ≡ false → log_periodic iant ≡ false
unfolding type_ok log_periodic
untyped_no_boom iant h = grind (arith, nat_tests)
