-- A whole number in decimal digits, in ASCII, with no leading zero. Definitions only.
use Rattle.std.specs.Prelude.{ℕ, zero, suc, ◌+◌, ◌/◌, ◌%◌, cond, List, [], ◌∷◌, ◌++◌, ltb}

-- at most k digits: those of the tens, where there are any, then the ones
unfoldable pub numeral_in : ℕ → ℕ → List ℕ
numeral_in zero n = []
numeral_in (suc k) n = cond (ltb n 10) [] (numeral_in k (n / 10)) ++ ((48 + n % 10) ∷ [])

-- ten digits are enough for 32 bits
abbrev pub numeral : ℕ → List ℕ
numeral n = numeral_in 10 n
