-- What the reader and the writer answer, by document 01's table of refusals and document 02's card 7. Definitions only.
use Rattle.std.specs.Prelude.{ℕ, Result, Ok, Err, not, cond, List, length, eqb, leb, Float}
use Rattle.answers.specs.declared.Refusal.{Refusal}
use Rattle.answers.specs.Outcome as outcomes
use Rattle.answers.specs.Refusals.{RECORD, VALUE, TYPE, MODE, SPACE}
use Rattle.floats.specs.Ranges.{all_finite}
use Rattle.model.specs.Limits.{slot}
use Rattle.station.specs.declared.Station.{Station}
use Rattle.station.specs.Header.{width_of, typeless}
use Rattle.station.specs.Record.{is_record, edition_in, mode_in, floats_in, floats_of, station_of, record_of}

-- the reader's answer to a record, by its mode and its floats
unfoldable pub floats_answer : ℕ → List Float → outcomes.Outcome Station
floats_answer mode fs = cond (not (all_finite fs)) (outcomes.refused VALUE) (outcomes.accepted (station_of mode fs))

-- the reader's answer: refusals 1 and 2, or the station
unfoldable pub read_of : List ℕ → outcomes.Outcome Station
read_of bytes =
    cond (not (is_record bytes)) (outcomes.refused RECORD) (floats_answer (mode_in bytes) (floats_in (width_of (edition_in bytes)) bytes))

-- the writer's answer: the values of an acceptance; the number of a refusal, and what it leaves
pub data Answer (A : Type 0) : Type 0 where
  accepted : A → Answer A
  refused : ℕ → A → Answer A

-- what the writer's result says, with the values beside it
abbrev pub answer : {X A : Type 0} → Result X Refusal → A → Answer A
answer (Ok x) values = accepted values
answer (Err r) left = refused (outcomes.number r) left

-- the writer's answer, told the edition, and the lent bytes: refusals 1, 2, 3, 4 and 8, which leave them as they were, or the record
unfoldable pub write_of : ℕ → Station → List ℕ → Answer (List ℕ)
write_of edition s out =
    cond (not (leb edition 1)) (refused RECORD out)
    (cond (not (all_finite (floats_of s))) (refused VALUE out)
    (cond (typeless edition s.mode (slot s.parm 1)) (refused TYPE out)
    (cond (not (leb s.mode 3)) (refused MODE out)
    (cond (not (eqb (length out) 225)) (refused SPACE out)
    (accepted (record_of edition s))))))
