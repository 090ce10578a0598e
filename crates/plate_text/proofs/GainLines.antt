-- The lines of an accepted row: as the text has them, by `ccirgain`'s answers, and as the code writes them, by the row's numbers.
use Prim.Native.Nat.{ℕ, ◌<◌}
use mathlib.Core.Path.{◌≡◌, ◌∙◌}
use mathlib.Core.List.{List}
use lib.Ieee.{Float}
use Rattle.floats.specs.Ops.{count}
use Rattle.answers.specs.Outcome.{accepted}
use Rattle.antenna.specs.Gain.{graded}
use Rattle.plate_row.specs.Row.{row_of, numbers_of}
use Rattle.antenna_laws.proofs.Outcomes.{accepted-gain-finite}
use Rattle.antenna_laws.proofs.RowGains.{accepted_row_gains}
use Rattle.request.specs.declared.Request.{Request}
use Rattle.text.specs.Lines.{lines_to}
use Rattle.text.proofs.Laws.{lines_same}
use Rattle.plate_text.specs.Plate.{gain_at, graded_at}

module _ (q : Request) (t : List Float) {x : Float} (h : row_of q.antenna t q.elevation q.giso 360 ≡ accepted x) where
  numbers : List Float
  numbers = numbers_of q.antenna t q.elevation q.giso

  -- a number of the row is finite, so it is graded as `ccirgain` does
  gain-is-graded : (v : ℕ) → v < 360 → gain_at q t v ≡ graded_at q.antenna.peak.z6 numbers v
  unfolding graded numbers
  gain-is-graded v i =
      let gain = accepted_row_gains q.antenna t q.elevation q.giso h v i in
      let finite-gain = accepted-gain-finite q.antenna t q.elevation (count v) q.giso gain in
      gain ∙ rw finite-gain

  pub lines_are_gains : lines_to (gain_at q t) 360 ≡ lines_to (graded_at q.antenna.peak.z6 (numbers_of q.antenna t q.elevation q.giso)) 360
  unfolding numbers
  lines_are_gains = lines_same (gain_at q t) _ 360 gain-is-graded
