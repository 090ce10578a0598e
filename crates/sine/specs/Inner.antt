-- Not of document 01: what the code's inner steps ask of one another, where their words are wide enough. No public contract cites it. Definitions only.
use Rattle.std.specs.Prelude.{ℕ, ◌+◌, ◌*◌, ◌^◌, ◌≤◌, min}

-- the units of a quarter of a turn, rounded down: no angle has more
abbrev pub quarter_turn : ℕ
quarter_turn = 1686629713

-- where the sums stay far below 2^64: at most 9 terms, the first at most 1, or 2 where its divisor is above 2
pub record Summable (t j n p : ℕ) : Type 0 where
  pub angle : t ≤ quarter_turn
  pub divisor : 1 ≤ j
  pub terms : j + 2 * n ≤ 17
  pub first : p ≤ 2 ^ 30 * min j 2
