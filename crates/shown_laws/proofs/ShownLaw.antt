-- Every plate that is shown is 360 gains in order, so it has 360 entries, each in span. Assumes nothing.
use Prim.Native.Nat.{ℕ}
use mathlib.Core.Path.{◌≡◌}
use mathlib.Core.Bool.{Bool, true, false, cond}
use mathlib.Core.List.{List}
use lib.Dec.{ltb, eqb}
use lib.Ieee.{Float}
use Rattle.answers.specs.Outcome.{Outcome, accepted}
use Rattle.answers.proofs.Outcome.{passed}
use Rattle.words.specs.Floats.{float_at}
use Rattle.station.specs.declared.Station.{Station}
use Rattle.request.specs.Request.{and_then}
use Rattle.answers.specs.declared.Kind.{Kind}
use Rattle.shown.specs.Plate.{Entry, plate_of}
use Rattle.shown.specs.StationPlate.{row_plate, station_plate}
use Rattle.shown.specs.CurtainPlate.{factor_of, curtain_refusal, level_at, curtain_plate}
use Rattle.shown.specs.Shown.{read_plate, shown_of}
use Rattle.shown_laws.specs.ShownLaw.{ShownLaw}
use Rattle.request.proofs.Then.{then_only}
use Rattle.shown_laws.proofs.Entries.{plate-length, entries_spanned}

-- the gains that a plate shows
record Plated (entries : List Entry) : Type 0 where
  gain : ℕ → Outcome (Kind × Float)
  shows : plate_of gain ≡ accepted entries

station_plated : (input : List ℕ) {entries : List Entry} → station_plate input ≡ accepted entries → Plated entries
unfolding station_plate row_plate
station_plated input shown = let row = then_only _ _ (then_only _ _ shown).follows in record { gain = _; shows = row.follows }

curtain_plated : (s : Station) (mhz design u : Float) {entries : List Entry} → curtain_plate s mhz design u ≡ accepted entries → Plated entries
unfolding curtain_plate
curtain_plated s mhz design u shown =
    let number = curtain_refusal s.parm mhz design u in
    let plate = (passed (ltb 0 number) number (and_then (factor_of s) λ (x : Float). plate_of (level_at s.parm x u)) shown).1 in
    let factor = then_only (factor_of s) _ plate in
    record { gain = level_at s.parm factor.first u; shows = factor.follows }

read_plated : (input : List ℕ) (s : Station) {entries : List Entry} → read_plate input s ≡ accepted entries → Plated entries
unfolding read_plate
read_plated input s {entries} shown = by_mode (eqb s.mode 3) shown
  where
    by_mode : (b : Bool) → cond b (curtain_plate s (float_at input 225) (float_at input 229) (float_at input 233)) (station_plate input) ≡ accepted entries → Plated entries
    by_mode true e = curtain_plated s _ _ _ e
    by_mode false e = station_plated input e

plated : (input : List ℕ) {entries : List Entry} → shown_of input ≡ accepted entries → Plated entries
unfolding shown_of
plated input shown = let read = then_only _ _ shown in read_plated input read.first read.follows

pub shown_law : ShownLaw
shown_law =
    record {
      whole = λ input shown. let p = plated input shown in plate-length p.gain p.shows;
      spanned = λ input shown. let p = plated input shown in entries_spanned p.gain p.shows;
    }
