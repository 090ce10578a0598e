-- What an accepted call says: its limits were met, and its numbers are finite.
use Prim.Native.Nat.{ℕ}
use mathlib.Core.Path.{◌≡◌, sym, ap, ◌∙◌}
use mathlib.Core.Bool.{true, false, not, ◌&&◌}
use mathlib.Core.List.{List}
use native.Mathlib.Omega.{arith}
use borrow.Author.Tests.{ltb-false, not-false}
use lib.ListN.{length}
use lib.Dec.{ltb}
use lib.Ieee.{Float}
use lib.Ieee.Scale.{finite}
use Rattle.model.specs.Types.{jant_of}
use Rattle.floats.specs.Ranges.{all_finite}
use Rattle.floats.proofs.Tests.{both}
use Rattle.ground.specs.Table.{table_of}
use Rattle.answers.specs.declared.Kind.{Kind}
use Rattle.answers.specs.Outcome.{accepted}
use Rattle.answers.proofs.Outcome.{passed, same}
use Rattle.model.specs.Limits.{slot}
use Rattle.model.specs.declared.record.Model.{Model}
use Rattle.antenna.specs.Asked.{asked_refusal}
use Rattle.parameters.specs.Limits.{start_of, refusal_of}
use Rattle.search.specs.Search.{gainorm_of}
use Rattle.antenna.specs.SetUp.{model_of, search_refused, accepted_of, found, searched, set_up_of}
use Rattle.antenna.specs.TableSum.{table_sum, own_table}
use Rattle.antenna.specs.Gain.{graded, number_at, gain_asked, gain_of}
use Rattle.plate_row.specs.Row.{numbers_of, front_to_back, measured, row_asked, row_of}
use Rattle.antenna.specs.declared.record.Antenna.{Antenna}
use Rattle.search.specs.declared.gainorm.Search.{Search}

-- ---- set-up

module _ (p : List Float) (size : ℕ) where
  -- the search that set-up makes
  abbrev search_of : Search
  search_of = let m = model_of (jant_of (slot p 1)) p in gainorm_of m (table_of m) (start_of (jant_of (slot p 1)) p)

  pub record Met : Type 0 where
    pub limits : refusal_of (jant_of (slot p 1)) p size ≡ 0
    pub search : search_refused search_of ≡ false

  -- accepted just when the limits are met and every gain of the search, and what it found, is finite
  pub accepted_when : Met → set_up_of p size ≡ accepted_of (model_of (jant_of (slot p 1)) p) search_of
  unfolding set_up_of searched found
  accepted_when m = simp (m.limits, m.search)

  pub accepted_only_when : {a : Antenna × ℕ} → set_up_of p size ≡ accepted a → Met
  unfolding set_up_of searched found
  accepted_only_when h =
      let number = refusal_of (jant_of (slot p 1)) p size in
      let l = passed (ltb 0 number) _ _ h in
      let s = passed (search_refused search_of) _ _ l.1 in
      record { limits = omega (arith, ltb-false 0 number l.0); search = s.0 }

  pub accepted_model : {a : Antenna} {n : ℕ} → set_up_of p size ≡ accepted (a, n) → a.model ≡ model_of (jant_of (slot p 1)) p
  unfolding accepted_of
  accepted_model {a} {n} h = ap (λ (w : Antenna × ℕ). w.0.model) (same (sym h ∙ accepted_when (accepted_only_when h)))

  -- the sum in the record is that of its table
  pub accepted-sum : {a : Antenna} {n : ℕ} → set_up_of p size ≡ accepted (a, n) → a.sum ≡ table_sum (table_of a.model)
  unfolding accepted_of
  accepted-sum h =
      ap (λ (w : Antenna × ℕ). w.0.sum) (same (sym h ∙ accepted_when (accepted_only_when h))) ∙ ap (λ (m : Model). table_sum (table_of m)) (sym (accepted_model h))

  pub accepted-readings : {a : Antenna} {n : ℕ} → set_up_of p size ≡ accepted (a, n) → n ≡ search_of.tally.readings
  unfolding accepted_of
  accepted-readings h = ap (λ (w : Antenna × ℕ). w.1) (same (sym h ∙ accepted_when (accepted_only_when h)))

  pub accepted-peak : {a : Antenna} {n : ℕ} → set_up_of p size ≡ accepted (a, n) → a.peak ≡ search_of.peak
  unfolding accepted_of
  accepted-peak h = ap (λ (w : Antenna × ℕ). w.0.peak) (same (sym h ∙ accepted_when (accepted_only_when h)))

  -- every gain that the search met was finite, and so is what it found
  pub record Sound : Type 0 where
    pub sound : search_of.tally.sound ≡ true
    pub z6 : finite search_of.peak.z6 ≡ true
    pub umax : finite search_of.peak.umax ≡ true

  pub accepted_sound : {a : Antenna × ℕ} → set_up_of p size ≡ accepted a → Sound
  unfolding search_refused
  accepted_sound h =
      let found = search_of.peak in
      let all = (both (search_of.tally.sound && finite found.z6 && finite found.umax) (finite found.vmax) (not-false _ (accepted_only_when h).search)).0 in
      let two = both (search_of.tally.sound && finite found.z6) (finite found.umax) all in
      let first = both search_of.tally.sound (finite found.z6) two.0 in
      record { sound = first.0; z6 = first.1; umax = two.1 }

-- ---- gain and row

pub accepted-gain-finite : (a : Antenna) (t : List Float) (u v giso : Float) {k : Kind} {g : Float} → gain_of a t u v giso ≡ accepted (k, g) → finite g ≡ true
unfolding gain_of graded
accepted-gain-finite a t u v giso {k} {g} h =
    let n = number_at a.model a.peak.z6 t u v giso in
    let asked = (passed (ltb 0 (asked_refusal a.model (length t) (gain_asked (own_table a t) u v giso))) _ _ h).1 in
    let s = passed (not (finite n)) _ _ asked in
    rw (ap (λ (w : Kind × Float). w.1) (same s.1)) at (not-false (finite n) s.0)

pub accepted-row-finite : (a : Antenna) (t : List Float) (u giso : Float) (size : ℕ) {x : Float} → row_of a t u giso size ≡ accepted x
    → (all_finite (numbers_of a t u giso) ≡ true) × (finite x ≡ true)
unfolding row_of measured
accepted-row-finite a t u giso size {x} h =
    let row = numbers_of a t u giso in
    let m = (passed (ltb 0 (asked_refusal a.model (length t) (row_asked (own_table a t) u giso size))) _ _ h).1 in
    let s = passed (not (all_finite row && finite (front_to_back row))) _ _ m in
    let f = both (all_finite row) (finite (front_to_back row)) (not-false _ s.0) in
    (f.0, rw (same s.1) at f.1)

pub accepted-row-is : (a : Antenna) (t : List Float) (u giso : Float) (size : ℕ) {x : Float} → row_of a t u giso size ≡ accepted x → x ≡ front_to_back (numbers_of a t u giso)
unfolding row_of measured
accepted-row-is a t u giso size h =
    let row = numbers_of a t u giso in
    let m = (passed (ltb 0 (asked_refusal a.model (length t) (row_asked (own_table a t) u giso size))) _ _ h).1 in
    sym (same (passed (not (all_finite row && finite (front_to_back row))) _ _ m).1)
