-- Floats filled in order. Definitions only.
use Rattle.std.specs.Prelude.{ℕ, zero, suc, List, set, replicate, Float}
use Rattle.floats.specs.Ops.{+0}

-- v at each place below n of so many floats; what is not filled is +0
unfoldable pub filled_to : (ℕ → Float) → ℕ → ℕ → List Float
filled_to v size zero = replicate size +0
filled_to v size (suc n) = set (filled_to v size n) n (v n)
