-- What an accepted text is made of. Assumes nothing.
use Prim.Native.Nat.{ℕ, ◌≤◌}
use mathlib.Core.Path.{◌≡◌, refl}
use mathlib.Core.Bool.{true}
use mathlib.Core.List.{List}
use native.Mathlib.Omega.{arith}
use borrow.Author.Tests.{not-false, le-ltb}
use lib.ListN.{length}
use lib.Ieee.{Float}
use Rattle.answers.specs.Outcome.{Outcome, refused, accepted}
use Rattle.answers.proofs.Outcome.{passed, same}
use Rattle.floats.proofs.Tests.{both}
use Rattle.model.specs.Table.{table_size, blank_table}
use Rattle.plate_row.specs.Row.{row_of}
use Rattle.request.specs.declared.Request.{Request}
use Rattle.request.specs.Request.{and_then, request_of, table_after}
use Rattle.planet_vertical.specs.Directions.{horizontal_gain, vertical_gain, numbers_to}
use Rattle.planet_lines.specs.Losses.{all_in_span}
use Rattle.planet_lines.specs.Text.{text_of}
use Rattle.planet_text.specs.Planet.{spanned, vertical_text, pattern_text, planet_text, in_room}
use Rattle.planet_lines.proofs.Lengths.{text_length}
use Rattle.planet_vertical.proofs.Numbers.{numbers-length}
use Rattle.request.proofs.Then.{then_only}

pub record Parts (input text : List ℕ) : Type 0 where
  pub request : Request
  pub ready : request_of input table_size ≡ accepted request
  pub ratio : Float
  pub row : row_of request.antenna (table_after input blank_table) request.elevation request.giso 360 ≡ accepted ratio
  pub horizontal : List Float
  pub around : numbers_to (horizontal_gain request (table_after input blank_table)) 360 ≡ accepted horizontal
  pub vertical : List Float
  pub over : numbers_to (vertical_gain request (table_after input blank_table)) 181 ≡ accepted vertical
  pub horizontal_span : all_in_span horizontal ≡ true
  pub vertical_span : all_in_span vertical ≡ true
  pub is : text_of request.parm horizontal vertical ≡ text

pub parts : (input : List ℕ) {text : List ℕ} → planet_text input ≡ accepted text → Parts input text
unfolding planet_text pattern_text vertical_text spanned
parts input h =
    let asked = then_only _ _ h in
    let row = then_only _ _ asked.follows in
    let around = then_only _ _ row.follows in
    let over = then_only _ _ around.follows in
    let spans = passed _ _ _ over.follows in
    let s = both (all_in_span around.first) (all_in_span over.first) (not-false _ spans.0) in
    record {
      request = asked.first;
      ready = asked.accepts;
      ratio = row.first;
      row = row.accepts;
      horizontal = around.first;
      around = around.accepts;
      vertical = over.first;
      over = over.accepts;
      horizontal_span = s.0;
      vertical_span = s.1;
      is = same spans.1;
    }

pub text_short : (input : List ℕ) {text : List ℕ} → planet_text input ≡ accepted text → length text ≤ 8738
text_short input h =
    let p = parts input h in
    rw (← p.is) (text_length p.request.parm p.horizontal p.vertical p.horizontal_span p.vertical_span (omega (arith, numbers-length _ 360 p.around)))

room_for : (room : ℕ) (o : Outcome (List ℕ)) → ((s : List ℕ) → o ≡ accepted s → length s ≤ room) → in_room room o ≡ o
unfolding in_room and_then
room_for room (refused n) f = refl
room_for room (accepted s) f = rw (le-ltb room (length s) (f s refl))

-- 8,960 bytes are room for any text
pub enough-room : (input : List ℕ) (room : ℕ) → 8960 ≤ room → in_room room (planet_text input) ≡ planet_text input
enough-room input room h = room_for room (planet_text input) λ s e. omega (arith, text_short input e)
