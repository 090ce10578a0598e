-- Document 01, "Answers": the limits that several calls share. Definitions only.
use Rattle.std.specs.Prelude.{ℕ, Bool, List, get_or, Float}
use Rattle.std.specs.Float.{nan}
use Rattle.floats.specs.Literals.{one, thirty_one}
use Rattle.floats.specs.Ranges.{from_to}

-- slot k of the parameters
abbrev pub slot : List Float → ℕ → Float
slot p k = get_or p k nan

-- 5: "≥ 1 and < 31"
unfoldable pub in_band : Float → Bool
in_band mhz = from_to mhz one thirty_one
