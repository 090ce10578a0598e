-- Document 02, card 14: from the 237 bytes that `plate` reads, "by its steps", to the text or the first refusal. Definitions only.
use Rattle.std.specs.Prelude.{ℕ, ◌≡◌, Result, cond, not, ◌&&◌, List, [], length, ltb, Float}
use Rattle.answers.specs.declared.Refusal.{Refusal}
use Rattle.answers.specs.Outcome.{Outcome, refused, accepted, outcome}
use Rattle.answers.specs.Refusals.{SPACE, SPAN}
use Rattle.words.specs.Laid.{laid}
use Rattle.model.specs.Table.{table_size, blank_table}
use Rattle.plate_row.specs.Row.{row_of}
use Rattle.request.specs.declared.Request.{Request}
use Rattle.request.specs.Request.{and_then, request_of, table_after}
use Rattle.text.specs.Lines.{printed}
use Rattle.planet_vertical.specs.Directions.{horizontal_gain, vertical_gain, numbers_to}
use Rattle.planet_lines.specs.Losses.{all_in_span}
use Rattle.planet_lines.specs.Text.{text_of}

-- "18 span, for a number over 1,000 in size; tested after 10"
unfoldable pub spanned : List Float → List Float → List Float → Outcome (List ℕ)
spanned parm horizontal vertical = cond (not (all_in_span horizontal && all_in_span vertical)) (refused SPAN) (accepted (text_of parm horizontal vertical))

-- the vertical numbers, then the span
unfoldable pub vertical_text : Request → List Float → List Float → Outcome (List ℕ)
vertical_text q t horizontal = and_then (numbers_to (vertical_gain q t) 181) λ (vertical : List Float). spanned q.parm horizontal vertical

-- the plate row, whose numbers are `ccirgain`'s, then these
unfoldable pub pattern_text : Request → List Float → Outcome (List ℕ)
pattern_text q t =
    and_then (row_of q.antenna t q.elevation q.giso 360) λ (front_to_back : Float).
    and_then (numbers_to (horizontal_gain q t) 360) λ (horizontal : List Float).
    vertical_text q t horizontal

-- the steps of `plate` before the row, with a table of its own, then these: the text, whatever space there is for it
unfoldable pub planet_text : List ℕ → Outcome (List ℕ)
planet_text input = and_then (request_of input table_size) λ (q : Request). pattern_text q (table_after input blank_table)

-- "Text space too short is 8, here tested last of all"
unfoldable pub in_room : ℕ → Outcome (List ℕ) → Outcome (List ℕ)
in_room room text = and_then text λ (s : List ℕ). cond (ltb room (length s)) (refused SPACE) (accepted s)

-- "The answer is the text's length, and bytes past it stay"; a refusal leaves them all
unfoldable pub length_of : Outcome (List ℕ) → Outcome ℕ
length_of text = and_then text λ (s : List ℕ). accepted (length s)

unfoldable pub lent_after : Outcome (List ℕ) → List ℕ → List ℕ
lent_after (refused n) lent = lent
lent_after (accepted s) lent = laid lent 0 s

-- the answer with room bytes lent, and the lent bytes afterwards
abbrev pub planet_of : List ℕ → ℕ → Outcome ℕ
planet_of input room = length_of (in_room room (planet_text input))

abbrev pub text_after : List ℕ → List ℕ → List ℕ
text_after input lent = lent_after (in_room (length lent) (planet_text input)) lent

-- the answer and the lent bytes afterwards, of a text: what the code's steps promise
pub record Delivered (text : Outcome (List ℕ)) (before : List ℕ) (answer : Result ℕ Refusal) (after : List ℕ) : Type 0 where
  pub answered : outcome answer ≡ length_of (in_room (length before) text)
  pub lent : after ≡ lent_after (in_room (length before) text) before

-- the program's output into a buffer of room bytes: the text or the refusal's line, or nothing where there are under 8,960
unfoldable pub output_in : ℕ → List ℕ → List ℕ
output_in room input = cond (ltb room 8960) [] (printed (planet_text input) λ (s : List ℕ). s)
