-- Document 01, "Answers": what a call answers. Definitions only.
use Rattle.std.specs.Prelude.{ℕ, Result, Ok, Err}
use Rattle.answers.specs.declared.Refusal.{Refusal}
use Rattle.answers.specs.declared.Refusal.TheVariants as refusals
use Rattle.answers.specs.Refusals.{RECORD, VALUE, TYPE, MODE, BAND, COUNT, AIM, SPACE, PATTERN, LEVEL, CALENDAR, ROW, GAP, OVERLAP, TABLE, CALL, FULL, SPAN}

-- a refusal's number alone, or the values of an accepted call
pub data Outcome (A : Type 0) : Type 0 where
  refused : ℕ → Outcome A
  accepted : A → Outcome A

-- a refusal's number
abbrev pub number : Refusal → ℕ
number refusals.Record = RECORD
number refusals.Value = VALUE
number refusals.Type = TYPE
number refusals.Mode = MODE
number refusals.Band = BAND
number refusals.Count = COUNT
number refusals.Aim = AIM
number refusals.Space = SPACE
number refusals.Pattern = PATTERN
number refusals.Level = LEVEL
number refusals.Calendar = CALENDAR
number refusals.Row = ROW
number refusals.Gap = GAP
number refusals.Overlap = OVERLAP
number refusals.Table = TABLE
number refusals.Call = CALL
number refusals.Full = FULL
number refusals.Span = SPAN

-- what a call's result says, where a value x stands for `meaning x`
abbrev pub outcome_as : {X Y : Type 0} → (X → Y) → Result X Refusal → Outcome Y
outcome_as meaning (Ok x) = accepted (meaning x)
outcome_as meaning (Err r) = refused (number r)

-- the same where a value stands for itself
abbrev pub outcome : {X : Type 0} → Result X Refusal → Outcome X
outcome = outcome_as (λ x. x)

-- the number of a check's refusal, 0 where there is none
abbrev pub number_of : {X : Type 0} → Result X Refusal → ℕ
number_of (Ok x) = 0
number_of (Err r) = number r
