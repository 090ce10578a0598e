-- What a call leaves, and floats as the words of a list. Definitions only.
use Rattle.std.specs.Prelude.{ℕ, List}
pub use Rattle.words.specs.Patterns.{part, bits, floats}

-- the number that a call returns, and what it leaves in the lent buffer
pub data Left : Type 0 where
  left : ℕ → List ℕ → Left
