-- `hf_setup`, `hf_gain` and `hf_plate_row`: document 01's set-up, gain and row over a lent antenna record. Definitions only.
use Rattle.std.specs.Prelude.{ℕ, cond, not, ◌&&◌, List, length, eqb, Float}
use Rattle.std.specs.Float.{binary32}
use Rattle.std.specs.Float.Ieee.{to_bits}
use Rattle.answers.specs.Outcome.{Outcome, refused, accepted}
use Rattle.answers.specs.Refusals.{SPACE}
use Rattle.answers.specs.declared.Kind.{Kind}
use Rattle.antenna.specs.Gain.{gain_of}
use Rattle.plate_row.specs.Row.{row_of, row_after}
use Rattle.antenna.specs.SetUp.{set_up_of, lent_after}
use Rattle.antenna.specs.declared.record.Antenna.{Antenna}
use Rattle.antenna_words.specs.Fields.{antenna_size, antenna_words}
use Rattle.antenna_words.specs.Reading.{antenna_in}
use Rattle.packed.specs.Packed.{kinded, refused_as}
use Rattle.gains_calls.specs.Gains.{kind_number}
use Rattle.gains_calls.specs.Search.{search_words}

-- ---- set-up

-- the number that the call returns, and what it leaves in the lent table, antenna record and words
pub data SetUpLeft : Type 0 where
  set_up_left : ℕ → List Float → List ℕ → List ℕ → SetUpLeft

-- 0, with the table t, the record's words and what the search found; or the refusal, with all as it was
unfoldable pub recorded : Outcome (Antenna × ℕ) → List Float → List ℕ → List ℕ → SetUpLeft
recorded (refused n) t antenna out = set_up_left n t antenna out
recorded (accepted s) t antenna out = set_up_left 0 t (antenna_words s.0) (search_words s.1 s.0.peak)

-- 8 for parameters, a record or words of another number
unfoldable pub set_up_call : List Float → List Float → List ℕ → List ℕ → SetUpLeft
set_up_call parm table antenna out =
    cond (not (eqb (length parm) 20 && eqb (length antenna) antenna_size && eqb (length out) 4)) (set_up_left SPACE table antenna out)
    (recorded (set_up_of parm (length table)) (lent_after parm table) antenna out)

-- ---- gain

-- the kind's number and the bits, or the refusal's number under kind 3
unfoldable pub gain_number : Outcome (Kind × Float) → ℕ
gain_number (refused n) = refused_as n
gain_number (accepted g) = kinded (kind_number g.0) (to_bits binary32 g.1)

-- 8 for a record of another number of words
unfoldable pub gain_call : List ℕ → List Float → Float → Float → Float → ℕ
gain_call antenna table u v giso =
    cond (not (eqb (length antenna) antenna_size)) (refused_as SPACE) (gain_number (gain_of (antenna_in antenna) table u v giso))

-- ---- row

-- front-to-back's bits, or the refusal's number under kind 3
unfoldable pub row_number : Outcome Float → ℕ
row_number (refused n) = refused_as n
row_number (accepted x) = to_bits binary32 x

-- with n floats lent for it
unfoldable pub row_call : List ℕ → List Float → Float → Float → ℕ → ℕ
row_call antenna table u giso n =
    cond (not (eqb (length antenna) antenna_size)) (refused_as SPACE) (row_number (row_of (antenna_in antenna) table u giso n))

unfoldable pub row_call_after : List ℕ → List Float → Float → Float → List Float → List Float
row_call_after antenna table u giso row =
    cond (not (eqb (length antenna) antenna_size)) row (row_after (antenna_in antenna) table u giso row)
