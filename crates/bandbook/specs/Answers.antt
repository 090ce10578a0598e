-- Document 02, card 8: what a call of the band book answers. Definitions only.
use Rattle.std.specs.Prelude.{ℕ, Option, Some, None, Result, Ok, Err}
use Rattle.answers.specs.Outcome.{number}
use Rattle.bandbook.specs.declared.Refused.{Refused}

-- the value of an accepted call, or a refusal's number, alone or with its place: the row, or the kHz
pub data Answer : Type 0 where
  accepted : ℕ → Answer
  refused : ℕ → Answer
  refused_at : ℕ → ℕ → Answer

abbrev pub placed : ℕ → Option ℕ → Answer
placed n None = refused n
placed n (Some place) = refused_at n place

-- what a call's result says, where a value x stands for `meaning x`
abbrev pub answer_as : {X : Type 0} → (X → ℕ) → Result X Refused → Answer
answer_as meaning (Ok x) = accepted (meaning x)
answer_as meaning (Err e) = placed (number e.refusal) e.place

-- a good book counts as 0
abbrev pub judged : {X : Type 0} → Result X Refused → Answer
judged = answer_as (λ x. 0)

-- a station's id
abbrev pub found : Result ℕ Refused → Answer
found = answer_as (λ id. id)
