-- What the answers of `prepare` and of `asked_row` say of the request and of its row. Assumes nothing.
use Prim.Native.Nat.{ℕ}
use mathlib.Core.Path.{◌≡◌, refl, sym, ap, ◌∙◌}
use mathlib.Core.List.{List}
use native.Mathlib.Omega.{arith}
use lib.ListN.{length}
use lib.Ieee.{Float}
use Rattle.std.specs.Prelude.{Result, Ok, Err}
use Rattle.answers.specs.declared.Refusal.{Refusal}
use Rattle.answers.specs.Outcome.{Outcome, refused, accepted, number, outcome}
use Rattle.answers.proofs.Outcome.{same}
use Rattle.model.specs.Table.{table_size, blank_table}
use Rattle.model.proofs.BlankTable.{blank-length}
use Rattle.plate_row.specs.Row.{row_of, numbers_of}
use Rattle.request.specs.declared.Request.{Request}
use Rattle.request.specs.Request.{and_then, request_of}
use Rattle.plate_text.specs.Plate.{row_numbers}

-- the request, with a blank table lent
module _ (input : List ℕ) (r : Result Request Refusal) (answered : outcome r ≡ request_of input (length blank_table)) where
  said : request_of input table_size ≡ outcome r
  said = ap (request_of input) (sym blank-length) ∙ sym answered

  pub request_refused : (e : Refusal) → r ≡ Err e → request_of input table_size ≡ refused (number e)
  request_refused e told = said ∙ ap outcome told

  pub request_there : (q : Request) → r ≡ Ok q → request_of input table_size ≡ accepted q
  request_there q told = said ∙ ap outcome told

-- a row is there: its front-to-back, and its numbers
pub record RowThere (q : Request) (t numbers : List Float) : Type 0 where
  pub front_to_back : Float
  pub accepts : row_of q.antenna t q.elevation q.giso 360 ≡ accepted front_to_back
  pub own : numbers_of q.antenna t q.elevation q.giso ≡ numbers

module _ (q : Request) (t : List Float) (r : Result (List Float) Refusal) (answered : outcome r ≡ row_numbers q t) where
  pub row_refused : (e : Refusal) → r ≡ Err e → row_of q.antenna t q.elevation q.giso 360 ≡ refused (number e)
  unfolding row_numbers and_then
  row_refused e told = go (row_of q.antenna t q.elevation q.giso 360) (sym answered ∙ ap outcome told)
    where
      go : (o : Outcome Float) → and_then o (λ (x : Float). accepted (numbers_of q.antenna t q.elevation q.giso)) ≡ refused (number e) → o ≡ refused (number e)
      go (refused n) h = cc
      go (accepted x) h = let z : ◌≡◌ {A = ℕ} 0 1 = cc in absurd (omega arith)

  pub row_there : (numbers : List Float) → r ≡ Ok numbers → RowThere q t numbers
  unfolding row_numbers and_then
  row_there numbers told = go (row_of q.antenna t q.elevation q.giso 360) refl (sym answered ∙ ap outcome told)
    where
      go : (o : Outcome Float) → row_of q.antenna t q.elevation q.giso 360 ≡ o → and_then o (λ (x : Float). accepted (numbers_of q.antenna t q.elevation q.giso)) ≡ accepted numbers → RowThere q t numbers
      go (refused n) e h = let z : ◌≡◌ {A = ℕ} 0 1 = cc in absurd (omega arith)
      go (accepted x) e h = record { front_to_back = x; accepts = e; own = same h }
