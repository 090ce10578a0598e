-- Document 02, card 14: hundredths "printed with two decimals, zero without a sign", in ASCII. Definitions only.
use Rattle.std.specs.Prelude.{ℕ, suc, ◌+◌, ◌/◌, ◌%◌, List, [], ◌∷◌, ◌++◌, ℤ, pos, negsuc}
use Rattle.quoted.specs.Quoted.{quoted}
use Rattle.numerals.specs.Numeral.{numeral}

-- n hundredths: the whole part with no leading zero, a point, two digits
unfoldable pub decimals : ℕ → List ℕ
decimals n = numeral (n / 100) ++ quoted "." ++ ((48 + n / 10 % 10) ∷ (48 + n % 10) ∷ [])

-- `negsuc n` is -(n + 1), so zero has no sign
unfoldable pub two_decimals : ℤ → List ℕ
two_decimals (pos n) = decimals n
two_decimals (negsuc n) = quoted "-" ++ decimals (suc n)
