-- A plate in its steps: an entry, all gains there, a row's gains. Assumes nothing.
use Prim.Native.Nat.{ℕ, ◌<◌}
use mathlib.Core.Path.{◌≡◌}
use mathlib.Core.Bool.{true, false}
use mathlib.Core.List.{List}
use lib.ListN.{get_or}
use lib.Ieee.{Float}
use Rattle.floats.specs.Ops.{at}
use Rattle.answers.specs.Outcome.{Outcome, refused, accepted}
use Rattle.answers.specs.Refusals.{SPAN}
use Rattle.hundredths.specs.Hundredths.{in_span}
use Rattle.hundredths.specs.Raised.{raised_of, lowered}
use Rattle.hundredths.proofs.Raised.{lowered-raised}
use Rattle.answers.specs.declared.Kind.{Kind}
use Rattle.answers.specs.declared.Kind.TheVariants as kind
use Rattle.request.specs.Request.{and_then}
use Rattle.shown.specs.InOrder.{in_order}
use Rattle.shown.specs.Plate.{in_hundredths, plate_of, gain_in}
use Rattle.shown.proofs.InOrder.{in_order_same, in_order_accepted, in_order_refused}

-- the entry of a number in span, by its raised hundredths
module _ (kinds : List Kind) (out : List ℕ) (numbers : List Float) (k : ℕ) where
  pub entry-shown : (in_span (at numbers k) ≡ true) × (get_or out k 0 ≡ raised_of (at numbers k))
      → in_hundredths (gain_in kinds numbers k) ≡ accepted (get_or kinds k kind.Level, lowered (get_or out k 0))
  unfolding in_hundredths
  entry-shown h = rw (h.0, h.1, lowered-raised (at numbers k) h.0)

pub out_of_span : (kind : Kind) (x : Float) → in_span x ≡ false → in_hundredths (kind, x) ≡ refused SPAN
unfolding in_hundredths
out_of_span kind x h = rw h

-- where all gains are there, the plate is they in hundredths
pub plate_of_gains : (gain : ℕ → Outcome (Kind × Float)) (g : ℕ → Kind × Float) → ((v : ℕ) → v < 360 → gain v ≡ accepted (g v))
    → plate_of gain ≡ in_order (λ (v : ℕ). in_hundredths (g v)) 360
unfolding plate_of and_then
plate_of_gains gain g all =
    rw (in_order_accepted gain g 360 all) (in_order_same _ _ 360 (λ v h. rw (all v h)))

-- the first gain that is refused refuses the plate
pub plate-refused : (gain : ℕ → Outcome (Kind × Float)) (g : ℕ → Kind × Float) (k : ℕ) {number : ℕ} → ((j : ℕ) → j < k → gain j ≡ accepted (g j))
    → gain k ≡ refused number → k < 360 → plate_of gain ≡ refused number
unfolding plate_of and_then
plate-refused gain g k e r h = rw (in_order_refused gain g k e r 360 h)
