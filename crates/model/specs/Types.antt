-- The types of antenna and their families. Definitions only.
use Rattle.std.specs.Prelude.{◌≡◌, ℕ, Bool, true, false, ◌&&◌, ◌||◌, leb, eqb, Result, Ok, Err, Float}
use Rattle.answers.specs.declared.Refusal.{Refusal}
use Rattle.answers.specs.declared.Refusal.TheVariants as refusals
use Rattle.floats.specs.Rounding.{nint_of, natural}
use Rattle.model.specs.declared.types.AntennaType.{AntennaType}
use Rattle.model.specs.declared.types.AntennaType.TheVariants as types

-- `jant`, of slot 1. A type below 0 is no type, as 0 is none
unfoldable pub jant_of : Float → ℕ
jant_of slot = natural (nint_of slot)

-- 3: types 1 to 9
unfoldable pub type_ok : ℕ → Bool
type_ok iant = leb 1 iant && leb iant 9

-- types 1 to 4, with dipole counts and a slew
unfoldable pub array_type : ℕ → Bool
array_type iant = leb iant 4

-- types 5 and 6
unfoldable pub log_periodic : ℕ → Bool
log_periodic iant = eqb iant 5 || eqb iant 6

-- types 8 and 9, the quadrant antenna and the crossed dipoles
unfoldable pub crossed_type : ℕ → Bool
crossed_type iant = eqb iant 8 || eqb iant 9

-- the number of a type that the code has by its name
abbrev pub type_number : AntennaType → ℕ
type_number types.Multiband = 1
type_number types.CentreFed = 2
type_number types.EndFed = 3
type_number types.Tropical = 4
type_number types.HorizontalLogPeriodic = 5
type_number types.VerticalLogPeriodic = 6
type_number types.Rhombic = 7
type_number types.Quadrant = 8
type_number types.CrossedDipoles = 9

-- the type that a number is; of any other the refusal 3
abbrev pub Numbered : ℕ → Result AntennaType Refusal → Type 0
Numbered iant (Ok kind) = (type_number kind ≡ iant) × (type_ok iant ≡ true)
Numbered iant (Err r) = (type_ok iant ≡ false) × (r ≡ refusals.Type)
