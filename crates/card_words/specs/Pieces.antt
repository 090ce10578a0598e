-- What the sentences are made of. Definitions only.
use Rattle.std.specs.Prelude.{ℕ, min, cond, List, ◌++◌, length, take, ltb}
use Rattle.numerals.specs.Numeral.{numeral}
use Rattle.quoted.specs.Quoted.{quoted}

-- a word as typed: its first 40 bytes and two points where it is longer
unfoldable pub shown : List ℕ → List ℕ
shown word = cond (ltb 40 (length word)) (take 40 word ++ quoted "..") word

-- a number, or the largest of 32 bits where those don't hold it
abbrev pub capped : ℕ → ℕ
capped n = min n 0xFFFFFFFF

-- such a number in its digits
unfoldable pub told : ℕ → List ℕ
told n = numeral (capped n)
