-- What `--fold` shows apart is a mirror image. Assumes nothing.
use Prim.Native.Nat.{ℕ, ◌-◌, ◌<◌}
use mathlib.Core.Path.{◌≡◌, subst, ◌∙◌}
use mathlib.Core.Bool.{Bool, true, false, cond, false≢true}
use mathlib.Core.List.{List}
use native.Mathlib.Omega.{arith}
use lib.Dec.{eqb}
use lib.Ieee.{Float}
use Rattle.answers.specs.Outcome.{Outcome, accepted}
use Rattle.answers.proofs.Outcome.{same}
use Rattle.words.specs.Floats.{float_at}
use Rattle.model.specs.Table.{table_size}
use Rattle.station.specs.declared.Station.{Station}
use Rattle.request.specs.declared.Request.{Request}
use Rattle.request.specs.Request.{station_in, antenna_of, tuned_of, request_of}
use Rattle.claims.specs.MirrorLaw.{Symmetric}
use Rattle.claims.proofs.MirrorLaw.{mirror_law}
use Rattle.heading.specs.Heading.{headed, station_heading, read_heading, heading_of}
use Rattle.heading.specs.declared.Heading.{Heading}
use Rattle.shown.specs.Plate.{Entry}
use Rattle.shown.specs.StationPlate.{gain_at, row_plate, station_plate}
use Rattle.shown.specs.Shown.{read_plate, shown_of}
use Rattle.fold_law.specs.FoldLaw.{MirrorImage, FoldLaw}
use Rattle.request.proofs.Then.{then_only, then_follows}
use Rattle.shown_laws.proofs.Entries.{entries_alike}
use Rattle.shown_laws.proofs.ShownLaw.{shown_law}
use Rattle.fold_law.proofs.Accepted.{headed-mirrored, set_symmetric}

-- the gains of a request of these parameters
module _ (p : List Float) (giso u : Float) {q : Request} (ready : antenna_of p giso u table_size ≡ accepted q) (symmetric : Symmetric p) where
  gains_mirror : (t : List Float) (v : ℕ) → v < 360 → (v ≡ 90 → ⊥) → (v ≡ 270 → ⊥) → gain_at q t v ≡ gain_at q t (360 - v)
  unfolding antenna_of
  gains_mirror t v h east west =
      let set_up_lem = then_only _ _ ready in
      subst (λ (r : Request). gain_at r t v ≡ gain_at r t (360 - v)) (same set_up_lem.follows)
      (mirror_law.ccirgain p table_size set_up_lem.first.0 set_up_lem.first.1 set_up_lem.accepts symmetric t u giso v (omega arith) east west)

-- ---- the mirror

module _ (input : List ℕ) (s : Station) (read : station_in input ≡ accepted s) {h : Heading} (mirrored : h.mirrored ≡ true) {entries : List Entry} where
  station-mirror : station_heading s (float_at input 225) (float_at input 229) (float_at input 233) ≡ accepted h → station_plate input ≡ accepted entries → MirrorImage entries
  unfolding station_heading station_plate row_plate request_of tuned_of
  station-mirror told shown v some below east west =
      let maximum = then_only _ _ told in
      let request = then_only _ _ shown in
      let ready = then_follows _ _ maximum.accepts (then_follows _ _ read request.accepts) in
      let row = then_only _ _ request.follows in
      let symmetric = set_symmetric _ _ maximum.follows mirrored in
      entries_alike _ row.follows _ v (360 - v) below (omega arith) (gains_mirror maximum.first.1 maximum.first.0 (float_at input 233) ready symmetric _ v below east west)

  -- of a curtain no heading says so
  read-mirror : read_heading input s ≡ accepted h → read_plate input s ≡ accepted entries → MirrorImage entries
  unfolding read_heading read_plate
  read-mirror told shown = by_mode (eqb s.mode 3) _ _ _ told shown
    where
      by_mode : (b : Bool) (mhz u : Float) (curtain : Outcome (List Entry))
          → cond b (headed 0 mhz u false) (station_heading s (float_at input 225) (float_at input 229) (float_at input 233)) ≡ accepted h
          → cond b curtain (station_plate input) ≡ accepted entries → MirrorImage entries
      by_mode true mhz u curtain e f = absurd (false≢true (headed-mirrored 0 mhz u false e ∙ mirrored))
      by_mode false mhz u curtain e f = station-mirror e f

pub fold_law : FoldLaw
unfolding heading_of shown_of
fold_law =
    record {
      whole = shown_law.whole;
      mirrored = λ input told yes shown.
          let read = then_only _ _ told in
          read-mirror input read.first read.accepts yes read.follows (then_follows _ _ read.accepts shown);
    }
