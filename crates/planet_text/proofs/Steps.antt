-- The text by what the code's steps answer. Assumes nothing.
use Prim.Native.Nat.{ℕ}
use mathlib.Core.Path.{◌≡◌, refl}
use mathlib.Core.List.{List}
use lib.ListN.{length}
use lib.Ieee.{Float}
use Rattle.answers.specs.Outcome.{Outcome, refused, accepted}
use Rattle.model.specs.Table.{blank_table}
use Rattle.model.proofs.BlankTable.{blank-length}
use Rattle.plate_row.specs.Row.{row_of, numbers_of}
use Rattle.plate_text.specs.Plate.{row_numbers}
use Rattle.planet_vertical.specs.Directions.{horizontal_gain, numbers_to}
use Rattle.planet_vertical.proofs.Numbers.{row-numbers}
use Rattle.planet_text.specs.Planet.{vertical_text, pattern_text, planet_text}
use Rattle.request.specs.declared.Request.{Request}
use Rattle.request.specs.Request.{and_then, request_of, table_after}
use Rattle.request.proofs.Then.{then_accepted}

-- the plate row's numbers, then the vertical ones
pub text_of_row : (q : Request) (t : List Float) → pattern_text q t ≡ and_then (row_numbers q t) (vertical_text q t)
unfolding pattern_text row_numbers and_then
text_of_row q t = go (row_of q.antenna t q.elevation q.giso 360) refl
  where
    go : (o : Outcome Float) → row_of q.antenna t q.elevation q.giso 360 ≡ o
        → and_then o (λ (x : Float). and_then (numbers_to (horizontal_gain q t) 360) (vertical_text q t)) ≡ and_then (and_then o λ (x : Float). accepted (numbers_of q.antenna t q.elevation q.giso)) (vertical_text q t)
    go (refused n) e = refl
    go (accepted x) e = then_accepted _ _ _ (row-numbers q t e)

-- with a blank table lent
pub text_of_request : (input : List ℕ)
    → planet_text input ≡ and_then (request_of input (length blank_table)) λ (q : Request). pattern_text q (table_after input blank_table)
unfolding planet_text
text_of_request input = rw blank-length refl
