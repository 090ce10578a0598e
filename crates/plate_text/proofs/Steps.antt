-- What each answer of a step makes of the text, and how long the text is. Assumes nothing.
use mathlib.Core.Path.{◌≡◌, refl}
use Prim.Native.Nat.{ℕ, ◌≤◌}
use mathlib.Core.List.{List}
use lib.ListN.{length}
use lib.Dec.{lit≤}
use lib.Ieee.{Float}
use borrow.Author.Tests.{le-ltb}
use Rattle.answers.specs.Outcome.{Outcome, refused, accepted}
use Rattle.model.specs.Table.{table_size, blank_table}
use Rattle.model.proofs.BlankTable.{blank-length}
use Rattle.plate_row.specs.Row.{row_of, numbers_of}
use Rattle.request.specs.declared.Request.{Request}
use Rattle.request.specs.Request.{and_then, request_of, table_after}
use Rattle.text.specs.Lines.{printed, lines_to}
use Rattle.text.proofs.Laws.{lines-length, printed-length}
use Rattle.plate_text.specs.Plate.{gain_at, graded_at, row_text, row_numbers, plate_text, text_in}
use Rattle.plate_text.proofs.GainLines.{lines_are_gains}

-- the row's text, by its numbers
pub text_of_row : (q : Request) (t : List Float)
    → row_text q t ≡ printed (row_numbers q t) λ (numbers : List Float). lines_to (graded_at q.antenna.peak.z6 numbers) 360
unfolding row_text row_numbers and_then printed
text_of_row q t = go (row_of q.antenna t q.elevation q.giso 360) refl
  where
    go : (o : Outcome Float) → row_of q.antenna t q.elevation q.giso 360 ≡ o
        → printed o (λ (x : Float). lines_to (gain_at q t) 360) ≡ printed (and_then o λ (x : Float). accepted (numbers_of q.antenna t q.elevation q.giso)) λ (numbers : List Float). lines_to (graded_at q.antenna.peak.z6 numbers) 360
    go (refused n) e = refl
    go (accepted x) e = lines_are_gains q t e

-- the text, with a blank table lent
pub text_of_request : (input : List ℕ)
    → plate_text input ≡ printed (request_of input (length blank_table)) λ (q : Request). row_text q (table_after input blank_table)
unfolding plate_text
text_of_request input = rw blank-length refl

-- 360 lines of 21 bytes at most
pub plate_text_short : (input : List ℕ) → length (plate_text input) ≤ 7560
unfolding plate_text row_text
plate_text_short input =
    printed-length (request_of input table_size) _ 7560 (lit≤ tt)
    λ q. printed-length (row_of q.antenna (table_after input blank_table) q.elevation q.giso 360) _ 7560 (lit≤ tt) λ x. lines-length (gain_at q (table_after input blank_table)) 360

-- a buffer that has room
pub roomy : (room : ℕ) (input : List ℕ) → 8192 ≤ room → text_in room input ≡ plate_text input
unfolding text_in
roomy room input h = rw (le-ltb room 8192 h)
