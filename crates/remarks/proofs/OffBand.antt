-- Off the design band the maximum gain is -30: what the remark tells is why all directions are a floor. Assumes nothing.
use Prim.Native.Nat.{ℕ}
use mathlib.Core.Path.{◌≡◌, sym, ap, subst, ◌∙◌}
use mathlib.Core.Bool.{true, not}
use mathlib.Core.List.{List}
use native.Mathlib.Omega.{arith}
use borrow.Author.Tests.{eqb-true}
use lib.Dec.{ltb, eqb}
use lib.ListN.{length, take}
use lib.Seq.{length-take-le}
use lib.Ieee.{Float}
use lib.Ieee.Scale.{finite}
use Rattle.floats.specs.Ops.{at}
use Rattle.answers.specs.Outcome.{accepted}
use Rattle.answers.specs.Refusals.{LEVEL}
use Rattle.answers.proofs.Outcome.{passed, same}
use Rattle.words.specs.Floats.{float_at}
use Rattle.model.specs.Types.{jant_of}
use Rattle.station.specs.declared.Station.{Station}
use Rattle.station.specs.Header.{width_of}
use Rattle.station.specs.Record.{floats_in, edition_in}
use Rattle.station.proofs.RoundTrip.{accepted-read}
use Rattle.station.proofs.Unpacking.{floats_in_length}
use Rattle.interpolation.specs.Interpolation.{gain_terp}
use Rattle.maxgain.specs.Refusals.{refusal_of}
use Rattle.maxgain.specs.Maximum.{tuned}
use Rattle.maxgain_preview.specs.Preview.{shown, show_by_ratio, passing, preview_of, marked_by}
use Rattle.maxgain_preview.specs.PreviewLaw.{Given, call, Shows}
use Rattle.maxgain_preview.specs.declared.Shown.{Shown}
use Rattle.maxgain_preview.proofs.PreviewLaw.{preview_law, from-call}
use Rattle.antenna.specs.Gain.{floor_level}
use Rattle.request.specs.declared.Request.{Request}
use Rattle.request.specs.Request.{station_in, antenna_of, tuned_of, request_of}
use Rattle.request.proofs.Then.{then_only}
use Rattle.remarks.specs.Remarks.{by_ratio, off_band}

-- a station that was read has twenty parameters
twenty : (input : List ℕ) {s : Station} → station_in input ≡ accepted s → length s.parm ≡ 20
unfolding station_in
twenty input {s} h =
    let bytes = take 225 input in
    let fs = floats_in (width_of (edition_in bytes)) bytes in
    let read = accepted-read bytes s (passed (not (eqb (length input) 237)) _ _ h).1 in
    sym (ap (λ (r : Station). length r.parm) read.2) ∙ length-take-le 20 fs (omega (arith, floats_in_length (width_of (edition_in bytes)) bytes))

-- mode 1's call, as its preview shows it
module _ (c : Given) (mode : c.mode ≡ 1) {g : Float} {after : List Float} (h : call c ≡ accepted (g, after)) where
  abbrev iant : ℕ
  iant = jant_of (at c.parm 1)

  abbrev foper : Float
  foper = (tuned c.mhz c.design).foper

  abbrev fdesign : Float
  fdesign = (tuned c.mhz c.design).fdesign

  abbrev marked : Shown
  marked = marked_by c.mode g c.parm after

  by-ratio-shown : show_by_ratio c.parm iant c.gainmax (tuned c.mhz c.design) ≡ marked
  unfolding preview_of passing shown
  by-ratio-shown =
      let number = refusal_of c.mode c.parm c.gainmax c.gainmaxb c.mhz c.design in
      let seen = shown c.mode iant c.parm c.gainmax c.gainmaxb c.mhz c.design in
      let e : seen ≡ marked = same (passed (not (finite seen.gain)) LEVEL _ (passed (ltb 0 number) number _ (from-call c h)).1).1 in
      let m : seen ≡ show_by_ratio c.parm iant c.gainmax (tuned c.mhz c.design) = rw mode in
      sym m ∙ e

  left_so : Shows marked c.parm after
  left_so =
      let told = preview_law.accepted_both c marked (from-call c h) in
      subst (Shows marked c.parm) (ap (λ (m : Float × List Float). m.1) (same (sym told.1 ∙ h))) told.2

  ratio-gain : off_band after ≡ true → g ≡ floor_level
  unfolding off_band gain_terp show_by_ratio marked_by
  ratio-gain off =
      let type : at after 1 ≡ at c.parm 1 = left_so.others 1 (λ e. omega arith) (λ e. omega arith) (λ e. omega arith) in
      let mhz : at after 4 ≡ foper = sym left_so.four.left ∙ sym (ap (λ (s : Shown). s.slot4.value) by-ratio-shown) in
      let design : at after 7 ≡ fdesign = sym left_so.seven.left ∙ sym (ap (λ (s : Shown). s.slot7.value) by-ratio-shown) in
      let gain : gain_terp c.gainmax foper fdesign iant ≡ g = ap (λ (s : Shown). s.gain) by-ratio-shown in
      sym gain ∙ rw (rw (type, mhz, design) at off)

-- a plate off the design band: what the remark tells is why its maximum gain is -30
pub off_band_gain : (input : List ℕ) (size : ℕ) {q : Request} → request_of input size ≡ accepted q
    → by_ratio (station_in input) ≡ true → off_band q.parm ≡ true → q.giso ≡ floor_level
unfolding request_of tuned_of antenna_of by_ratio
off_band_gain input size {q} h ratio off =
    let read = then_only _ _ h in
    let s = read.first in
    let maximum = then_only _ _ read.follows in
    let set_up_lem = then_only _ _ maximum.follows in
    let is = same set_up_lem.follows in
    let mode : s.mode ≡ 1 = eqb-true s.mode 1 (sym (ap by_ratio read.accepts) ∙ ratio) in
    let given : Given = record {
      mode = s.mode;
      parm = s.parm;
      twenty = twenty input read.accepts;
      gainmax = s.gainmax;
      gainmaxb = s.gainmaxb;
      mhz = float_at input 225;
      design = float_at input 229;
    } in
    sym (ap (λ (r : Request). r.giso) is) ∙ ratio-gain given mode maximum.accepts (ap (λ (r : Request). off_band r.parm) is ∙ off)
