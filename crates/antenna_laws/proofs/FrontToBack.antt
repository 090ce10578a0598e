-- Front-to-back of an accepted row: the entry at 0 less the greatest behind, which a row that is its own mirror image shows by half.
use Prim.Native.Nat.{ℕ, ◌-◌, ◌≤◌, ◌<◌}
use mathlib.Core.Path.{◌≡◌, sym, ap, ◌∙◌}
use mathlib.Core.Bool.{true}
use mathlib.Core.List.{List}
use native.Mathlib.Omega.{arith}
use lib.IntN.{pos}
use lib.Ieee.{Float, to_signed}
use lib.Ieee.Scale.{finite}
use Rattle.floats.specs.Ops.{◌⊖◌, count, at}
use Rattle.answers.specs.declared.Kind.{Kind}
use Rattle.answers.specs.Outcome.{accepted}
use Rattle.answers.proofs.Outcome.{same}
use Rattle.model.specs.Limits.{slot}
use Rattle.model.specs.Types.{jant_of}
use Rattle.antenna.specs.SetUp.{set_up_of}
use Rattle.antenna.specs.Gain.{gain_of}
use Rattle.plate_row.specs.Row.{numbers_of, larger, greatest, front_to_back, row_of}
use Rattle.plate_row.specs.Greatest.{IsGreatest}
use Rattle.antenna.specs.declared.record.Antenna.{Antenna}
use Rattle.antenna_laws.proofs.Outcomes.{accepted-row-is}
use Rattle.antenna_laws.proofs.RowGains.{row_number, number-finite, accepted_row_gains}
use Rattle.antenna_laws.proofs.Mirror.{gain-mirror}
use Rattle.antenna_laws.proofs.CrossedMirror.{crossed_gain_mirror}
use Rattle.plate_row.proofs.Greatest.{is-greatest, folded-greatest}

module _ (a : Antenna) (t : List Float) (u giso : Float) {x : Float} (h : row_of a t u giso 360 ≡ accepted x) where
  abbrev row : List Float
  row = numbers_of a t u giso

  behind-finite : (v : ℕ) → 90 ≤ v → v ≤ 270 → finite (at row v) ≡ true
  behind-finite v l i = rw (row_number a t u giso v (omega arith)) (number-finite a t u giso h v (omega arith))

  -- the greatest is one of the entries at 90 to 270, and none of them is above it
  pub strongest-behind : (x ≡ at row 0 ⊖ greatest row 90 270) × IsGreatest row 90 270 (greatest row 90 270)
  unfolding front_to_back
  strongest-behind = (accepted-row-is a t u giso 360 h, is-greatest row 90 270 (omega arith) behind-finite)

  -- where the gain answers alike on both sides behind, the entries at 90 to 180 and at 270 tell front-to-back
  pub folded_front_to_back : ((v : ℕ) → 180 < v → v < 270 → gain_of a t u (count v) giso ≡ gain_of a t u (count (360 - v)) giso)
      → x ≡ at row 0 ⊖ larger (greatest row 90 180) (at row 270)
  folded_front_to_back m = strongest-behind.0 ∙ ap (λ (g : Float). at row 0 ⊖ g) (folded-greatest row behind-finite mirrored)
    where
      mirrored : (v : ℕ) → 180 < v → v < 270 → at row v ≡ at row (360 - v)
      mirrored v l i =
          ap (λ (w : Kind × Float). w.1)
          (same (sym (accepted_row_gains a t u giso h v (omega arith)) ∙ m v l i ∙ accepted_row_gains a t u giso h (360 - v) (omega arith)))

-- where the mirror law holds: types 1 to 4 without slew, types 5, 6 and 9
module _ (p : List Float) (n : ℕ) {a : Antenna} {readings : ℕ} (h : set_up_of p n ≡ accepted (a, readings)) (t : List Float) (u giso : Float) {x : Float} (r : row_of a t u giso 360 ≡ accepted x) where
  pub symmetric_front_to_back : jant_of (slot p 1) ≤ 6 → (jant_of (slot p 1) ≤ 4 → to_signed 31 (slot p 9) ≡ pos 0)
      → let row = numbers_of a t u giso in x ≡ at row 0 ⊖ larger (greatest row 90 180) (at row 270)
  symmetric_front_to_back six unslewed =
      folded_front_to_back a t u giso r (λ v l i. gain-mirror p n h six unslewed t u giso v (omega arith) (λ (e : v ≡ 90). omega arith) (λ (e : v ≡ 270). omega arith))

  pub crossed_front_to_back : jant_of (slot p 1) ≡ 9 → let row = numbers_of a t u giso in x ≡ at row 0 ⊖ larger (greatest row 90 180) (at row 270)
  crossed_front_to_back nine = folded_front_to_back a t u giso r (λ v l i. crossed_gain_mirror p n h nine t u giso v (omega arith))
