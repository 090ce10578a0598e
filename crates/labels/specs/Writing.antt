-- A number after its words. Definitions only.
use Rattle.std.specs.Prelude.{ℕ, ◌-◌, ◌/◌, cond, List, ◌++◌, ltb}
use Rattle.quoted.specs.Quoted.{quoted}
use Rattle.numerals.specs.Numeral.{numeral}
use Rattle.hundredths.specs.Decimals.{two_decimals}
use Rattle.hundredths.specs.Raised.{lowered}

-- words, then a whole number
unfoldable pub whole : List ℕ → ℕ → List ℕ
whole words n = words ++ numeral n

-- words, then hundredths, which come raised
unfoldable pub reading : List ℕ → ℕ → List ℕ
reading words raised = words ++ two_decimals (lowered raised)

-- raised hundredths as whole dBi, of a multiple of 100
unfoldable pub dbi : ℕ → List ℕ
dbi raised = cond (ltb raised 100000) (whole (quoted "-") ((100000 - raised) / 100)) (numeral ((raised - 100000) / 100))
