-- `shown::gains::in_hundredths` meets its contract. Assumes nothing.
use Prim.Native.Nat.{ℕ, ◌<◌}
use mathlib.Core.Path.{◌≡◌}
use mathlib.Core.Bool.{true}
use lib.ListN.{length, get_or}
use Rattle.floats.specs.Ops.{at}
use Rattle.hundredths.specs.Hundredths.{in_span}
use Rattle.hundredths.specs.Raised.{raised_of}
use Rattle.shown.proofs.gains.in_hundredths.Given as goal

abbrev pub invariant-loop-v : goal.invariant-loop-v
invariant-loop-v l = (length l.out ≡ 360) × ((k : ℕ) → k < l.v → (in_span (at l.numbers k) ≡ true) × (get_or l.out k 0 ≡ raised_of (at l.numbers k)))
