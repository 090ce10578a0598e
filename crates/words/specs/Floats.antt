-- Floats as big-endian words. Definitions only.
use Rattle.std.specs.Prelude.{ℕ, List, take, drop, Float}
use Rattle.std.specs.Float.{binary32}
use Rattle.std.specs.Float.Ieee.{of_bits}
use Rattle.words.specs.Digits.{number}

-- the float whose bits are the four bytes from index at on
unfoldable pub float_at : List ℕ → ℕ → Float
float_at bytes at = of_bits binary32 (number 256 (take 4 (drop at bytes)))
