-- Not of document 01: what the code's inner steps ask of one another, where their words are wide enough. No public contract cites it. Definitions only.
use Rattle.std.specs.Prelude.{◌≡◌, ℕ, ◌+◌, ◌*◌, ◌^◌, ◌<◌, ◌≤◌, Bool, false, not, Float}
use Rattle.std.specs.Float.{nan, inf, fin}
use Rattle.numeric.specs.Rounding.{steps}

-- x is a number, and its sign bit is clear
abbrev pub unsigned : Float → Bool
unsigned nan = false
unsigned (inf s) = not s
unsigned (fin s m e) = not s

-- how the code reads a positive number, normal or not, as m × 2 ^ e with 1 ≤ m < 2: m is M in units of 2 ^ -23, and e is k - 149
pub record Normalised (x : Float) (M k : ℕ) : Type 0 where
  pub whole : steps x * 2 ^ 23 ≡ M * 2 ^ k
  pub from : 2 ^ 23 ≤ M
  pub below : M < 2 ^ 24
  pub few : k < 2 ^ 8 + 23
