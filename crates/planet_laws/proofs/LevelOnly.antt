-- After an accepted row a vertical number is refused as 10 or not at all. Assumes nothing.
use Prim.Native.Nat.{ℕ, zero, suc, ◌-◌, ◌≤◌, ◌<◌}
use mathlib.Core.Path.{◌≡◌, sym, ap, ◌∙◌}
use mathlib.Core.Bool.{Bool, true, false, cond, not, ◌&&◌}
use mathlib.Core.List.{List}
use mathlib.Core.Logic.{⊎_elim}
use native.Mathlib.Nat.{le_refl}
use native.Mathlib.Omega.{arith}
use borrow.Author.Tests.{ltb-false, not-false}
use lib.Dec.{ltb, lit≤}
use lib.ListN.{length}
use lib.Ieee.{Float}
use lib.Ieee.Scale.{finite}
use Rattle.floats.specs.Ops.{count}
use Rattle.floats.proofs.Tests.{both, next}
use Rattle.answers.specs.Outcome.{Outcome, refused, accepted}
use Rattle.answers.specs.Refusals.{LEVEL}
use Rattle.answers.proofs.Outcome.{passed}
use Rattle.model.specs.Table.{table_size, blank_table}
use Rattle.antenna.specs.declared.record.Antenna.{Antenna}
use Rattle.antenna.specs.Asked.{asked_refusal}
use Rattle.answers.specs.declared.Kind.{Kind}
use Rattle.antenna.specs.Gain.{graded}
use Rattle.plate_row.specs.Row.{row_asked, row_of}
use Rattle.antenna.specs.TableSum.{own_table}
use Rattle.antenna_laws.proofs.Answered.{gain-answered}
use Rattle.antenna_laws.proofs.RowGains.{azimuth_finite}
use Rattle.request.specs.declared.Request.{Request}
use Rattle.request.specs.Request.{request_of, table_after}
use Rattle.planet_vertical.specs.Directions.{elevation_at, azimuth_at, vertical_gain, number_of, numbers_to}
use Rattle.planet_text.proofs.Ready.{ready-left, ready_table}
use Rattle.request.proofs.Then.{then_refuses}

-- an accepted row asked with a finite maximum gain
row_giso : (a : Antenna) (t : List Float) (u giso : Float) {x : Float} → row_of a t u giso 360 ≡ accepted x → finite giso ≡ true
unfolding row_of row_asked asked_refusal
row_giso a t u giso h =
    let number = asked_refusal a.model (length t) (row_asked (own_table a t) u giso 360) in
    let none : number ≡ 0 = omega (arith, ltb-false 0 number (passed (ltb 0 number) _ _ h).0) in
    (both (finite u) (finite giso) (not-false _ (next (not (finite u && finite giso)) _ _ none).0)).1

graded-only : (z6 g : Float) (n : ℕ) → graded z6 g ≡ refused n → n ≡ LEVEL
unfolding graded
graded-only z6 g n = go (not (finite g)) _
  where
    go : (b : Bool) (w : Kind × Float) → cond b (refused LEVEL) (accepted w) ≡ refused n → n ≡ LEVEL
    go true w h = cc
    go false w h = let z : ◌≡◌ {A = ℕ} 0 1 = cc in absurd (omega arith)

-- an answer that is refused under the number that the numbers are
record Refusing (gain : ℕ → Outcome (Kind × Float)) (m n : ℕ) : Type 0 where
  angle : ℕ
  within : angle < m
  refuses : gain angle ≡ refused n

number-refused : (gain : Outcome (Kind × Float)) {n : ℕ} → number_of gain ≡ refused n → gain ≡ refused n
unfolding number_of
number-refused gain h = ⊎_elim (λ e. e) (λ r. let z : ◌≡◌ {A = ℕ} 0 1 = cc in absurd (omega arith)) (then_refuses gain _ h)

refusing : (gain : ℕ → Outcome (Kind × Float)) (m : ℕ) {n : ℕ} → numbers_to gain m ≡ refused n → Refusing gain m n
unfolding numbers_to
refusing gain zero h = let z : ◌≡◌ {A = ℕ} 0 1 = cc in absurd (omega arith)
refusing gain (suc m) h =
    ⊎_elim
    (λ e. let r = refusing gain m e in record { angle = r.angle; within = omega (arith, r.within); refuses = r.refuses })
    (λ later.
    ⊎_elim
    (λ e. record { angle = m; within = le_refl (suc m); refuses = number-refused (gain m) e })
    (λ r. let z : ◌≡◌ {A = ℕ} 0 1 = cc in absurd (omega arith))
    (then_refuses (number_of (gain m)) _ later.1))
    (then_refuses (numbers_to gain m) _ h)

elevation-finite : (angle : ℕ) → angle < 181 → finite (count (elevation_at angle)) ≡ true
unfolding elevation_at
elevation-finite angle h = azimuth_finite _ (go (ltb 90 angle))
  where
    go : (b : Bool) → cond b (180 - angle) angle ≤ 360
    go true = omega arith
    go false = omega arith

angle_azimuth_finite : (angle : ℕ) → finite (count (azimuth_at angle)) ≡ true
unfolding azimuth_at
angle_azimuth_finite angle = azimuth_finite _ (go (ltb 90 angle))
  where
    go : (b : Bool) → cond b 180 0 ≤ 360
    go true = lit≤ tt
    go false = lit≤ tt

module _ (input : List ℕ) {q : Request} (ready : request_of input table_size ≡ accepted q) {x : Float} (row : row_of q.antenna (table_after input blank_table) q.elevation q.giso 360 ≡ accepted x) where
  pub level-only : (n : ℕ) → numbers_to (vertical_gain q (table_after input blank_table)) 181 ≡ refused n → n ≡ LEVEL
  level-only n h =
      let r = refusing (vertical_gain q (table_after input blank_table)) 181 h in
      let giso = row_giso q.antenna (table_after input blank_table) q.elevation q.giso row in
      let answered = gain-answered q.parm blank_table (ready-left input ready).accepts _ _ q.giso (elevation-finite r.angle r.within) (angle_azimuth_finite r.angle) giso in
      graded-only _ _ n (sym answered ∙ sym (ap (λ (t : List Float). vertical_gain q t r.angle) (ready_table input ready)) ∙ r.refuses)
