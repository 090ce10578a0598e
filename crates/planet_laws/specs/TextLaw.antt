-- What is proved of an accepted text beside its definition (proofs/Laws.antt): "Every other line's loss is proved to be that of the
-- `ccirgain` numbers". Definitions only.
use Rattle.std.specs.Prelude.{ℕ, ◌-◌, ◌≤◌, ◌<◌, ◌≡◌, List, ◌++◌, ℤ, pos, ◌-ℤ◌, ◌≤ℤ◌, Float}
use Rattle.std.specs.Float.Ieee.{to_signed}
use Rattle.quoted.specs.Quoted.{quoted}
use Rattle.answers.specs.Outcome.{Outcome, accepted}
use Rattle.model.specs.Limits.{slot}
use Rattle.model.specs.Table.{table_size, blank_table}
use Rattle.model.specs.Types.{jant_of}
use Rattle.answers.specs.declared.Kind.{Kind}
use Rattle.plate_row.specs.Row as row
use Rattle.hundredths.specs.Hundredths.{hundredths_of}
use Rattle.request.specs.declared.Request.{Request}
use Rattle.request.specs.Request.{request_of, table_after}
use Rattle.planet_vertical.specs.Directions.{horizontal_gain, vertical_gain}
use Rattle.planet_lines.specs.Losses.{below_ground}
use Rattle.planet_lines.specs.Text.{whole_line, lines_to, header_text}

-- a loss is that of `ccirgain`'s number: the greatest hundredths of its part less the number's, and not negative
pub record LossOf (gain : Outcome (Kind × Float)) (greatest loss : ℤ) : Type 0 where
  pub kind : Kind
  pub number : Float
  pub accepts : gain ≡ accepted (kind, number)
  pub is : loss ≡ greatest -ℤ hundredths_of number
  pub not_negative : pos 0 ≤ℤ loss

-- the losses at the first n angles are, and one of them is 0
pub record LossesOf (gain : ℕ → Outcome (Kind × Float)) (n : ℕ) (greatest : ℤ) (loss : ℕ → ℤ) : Type 0 where
  pub each : (angle : ℕ) → angle < n → LossOf (gain angle) greatest (loss angle)
  pub lossless : ℕ
  pub within : lossless < n
  pub none : loss lossless ≡ pos 0

-- the same on both sides of the boresight, but perhaps at right angles to it
abbrev pub MirroredLosses : (ℕ → ℤ) → Type 0
MirroredLosses loss = (angle : ℕ) → 0 < angle → angle < 360 → (angle ≡ 90 → ⊥) → (angle ≡ 270 → ⊥) → loss angle ≡ loss (360 - angle)

pub record TextLaw (input text : List ℕ) : Type 0 where
  -- the request that `plate` makes of the input too
  pub request : Request
  pub ready : request_of input table_size ≡ accepted request
  -- the two parts' losses and greatest hundredths
  pub horizontal : ℕ → ℤ
  pub vertical : ℕ → ℤ
  pub gain : ℤ
  pub vertical_gain_lem : ℤ
  pub is :
      text ≡ header_text request.parm gain
      ++ (whole_line (quoted "HORIZONTAL ") 360 ++ lines_to horizontal 360)
      ++ (whole_line (quoted "VERTICAL ") 360 ++ lines_to vertical 360)
  pub horizontals : LossesOf (horizontal_gain request (table_after input blank_table)) 360 gain horizontal
  pub verticals : LossesOf (vertical_gain request (table_after input blank_table)) 181 vertical_gain_lem vertical
  pub below : (angle : ℕ) → 181 ≤ angle → vertical angle ≡ below_ground
  -- the type is one digit
  pub type : (1 ≤ jant_of (slot request.parm 1)) × (jant_of (slot request.parm 1) ≤ 9)
  -- `GAIN` is "the horizontal row's greatest number"
  pub row_gain : let q = request in
      gain ≡ hundredths_of (row.greatest (row.numbers_of q.antenna (table_after input blank_table) q.elevation q.giso) 0 359)
  -- where `ccirgain` obeys the mirror law (`Symmetric` of `claims`): types 1 to 6, the first four without slew
  pub mirrored : let iant = jant_of (slot request.parm 1) in
      iant ≤ 6 → (iant ≤ 4 → to_signed 31 (slot request.parm 9) ≡ pos 0) → MirroredLosses horizontal
