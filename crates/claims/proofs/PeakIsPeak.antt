-- Card 11 holds.
use Prim.Native.Nat.{ℕ, ◌+◌}
use mathlib.Core.Path.{◌≡◌, ◌∙◌}
use mathlib.Core.List.{List, ◌∷◌, map, Memᴰ}
use lib.Dec.{T}
use lib.ListN.{length}
use lib.Ieee.{Float, le}
use Rattle.answers.specs.Outcome.{accepted}
use Rattle.floats.specs.Ops.{count, +0}
use Rattle.model.specs.Limits.{slot}
use Rattle.model.specs.Types.{jant_of}
use Rattle.model.specs.declared.record.Model.{Model}
use Rattle.ground.specs.Table.{table_of}
use Rattle.parameters.specs.Limits.{start_of}
use Rattle.search.specs.Peaks.{Greatest, LastPeak}
use Rattle.antenna.specs.SetUp.{model_of, set_up_of}
use Rattle.antenna.specs.declared.record.Antenna.{Antenna}
use Rattle.search.specs.declared.record.Peak.{Peak}
use Rattle.antenna_laws.proofs.Outcomes.{accepted-readings, accepted-peak, accepted_sound}
use Rattle.search.proofs.Peak.{each-counted, peaked, last-peak}
use Rattle.antenna_laws.proofs.PeakNumbers.{peak-number}
use Rattle.claims.specs.Dearest.{Slewed, Tropical}
use Rattle.claims.specs.PeakIsPeak.{peak_read, plane_read, gain_read, PeakIsPeak}
use Rattle.claims.proofs.Dearest.{no_last_pass}

module _ (p : List Float) (size : ℕ) (a : Antenna) (readings : ℕ) (h : set_up_of p size ≡ accepted (a, readings)) where
  abbrev made : Model
  made = model_of (jant_of (slot p 1)) p

  abbrev start : Peak
  start = start_of (jant_of (slot p 1)) p

  counted : readings ≡ length (plane_read p) + length (peak_read p)
  counted = accepted-readings p size h ∙ each-counted made (table_of made) start

  greatest : Greatest a.peak.z6 (+0 ∷ map (gain_read p) (peak_read p))
  greatest = rw (accepted-peak p size h) (peaked made (table_of made) start (accepted_sound p size h).sound).greatest

  elevation : (Slewed p → ⊥) → (Tropical p → ⊥) → (d : Float × Float) → Memᴰ d (peak_read p) → T (le +0 (gain_read p d))
      → LastPeak (λ (k : ℕ). gain_read p (count k, a.peak.vmax)) 90 a.peak.z6 a.peak.umax
  unfolding model_of
  elevation s t d i z =
      rw (accepted-peak p size h) (last-peak made (table_of made) start (no_last_pass p s t) (accepted_sound p size h).sound d i z)

pub peak-is-peak : PeakIsPeak
peak-is-peak =
    record {
      counted = counted;
      greatest = greatest;
      number = λ p lent a n h d i giso g f. peak-number p lent h d i giso g f;
      elevation = elevation;
    }
