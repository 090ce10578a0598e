-- `plate_row::row::folded` meets its contract.
use Prim.Native.Nat.{ℕ}
use mathlib.Core.Path.{◌≡◌}
use lib.Ieee.{Float}
use Rattle.floats.specs.Filled.{filled_to}
use Rattle.plate_row.specs.Folded.{Mirrored}
use Rattle.plate_row.proofs.row.folded.Given as goal

abbrev pub invariant-loop-v : goal.invariant-loop-v
invariant-loop-v l = (f : ℕ → Float) → Mirrored f → l.initial.out ≡ filled_to f 360 181 → l.west ≡ f 270 → l.out ≡ filled_to f 360 l.v
