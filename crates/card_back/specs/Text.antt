-- The card of a station: a line for each field of its kind, in the table's order. Definitions only.
use Rattle.std.specs.Prelude.{ℕ, zero, suc, ◌+◌, ◌-◌, ◌*◌, cond, ◌&&◌, List, [], ◌∷◌, ◌++◌, eqb, ltb, length, get_or, replicate, Float}
use Rattle.std.specs.Float.{nan}
use Rattle.quoted.specs.Quoted.{quoted}
use Rattle.words.specs.Floats.{float_at}
use Rattle.typed.specs.Typed.{typed_of}
use Rattle.model.specs.Limits.{slot}
use Rattle.station.specs.declared.Station.{Station}
use Rattle.station.specs.Record.{floats_of}
use Rattle.fields.specs.declared.Kind.{Kind}
use Rattle.fields.specs.Names.{TYPE, FIELDS, name_of}
use Rattle.fields.specs.Limits.{type_number}
use Rattle.fields.specs.Table.{CURTAIN, has_field, count_of, first_place}

-- ---- what is written

-- the kind of a station: mode 3 is the curtain's, and the other types stand in slot 1
unfoldable pub kind_of : Station → Kind
kind_of s = record { iant = cond (eqb s.mode 3) CURTAIN (type_number (slot s.parm 1)); mode = s.mode }

-- place p of a station's bytes: a float of the record, or behind it MHz, design MHz or elevation
unfoldable pub place_in : Station → List ℕ → ℕ → Float
place_in s bytes p = cond (ltb p 56) (get_or (floats_of s) p nan) (float_at bytes (225 + 4 * (p - 56)))

-- ---- how it is written, by the float in each place

-- a field's number in the fewest decimals that are read back; the curtain's type is a word
unfoldable pub word_of : Kind → ℕ → Float → List ℕ
word_of kind f x = cond (eqb f TYPE && eqb kind.iant CURTAIN) (quoted "curtain") (typed_of x)

-- n texts, one after the other
unfoldable pub in_turn : (ℕ → List ℕ) → ℕ → List ℕ
in_turn text zero = []
in_turn text (suc n) = in_turn text n ++ text n

-- the name, filled up with blanks to 11 columns
unfoldable pub label : ℕ → List ℕ
label f = name_of f ++ replicate (11 - length (name_of f)) 32

-- the field's number k, from 0, after a blank
unfoldable pub number_text : Kind → (ℕ → Float) → ℕ → ℕ → List ℕ
number_text kind place f k = 32 ∷ word_of kind f (place (first_place kind f + k))

unfoldable pub line_text : Kind → (ℕ → Float) → ℕ → List ℕ
line_text kind place f = label f ++ in_turn (number_text kind place f) (count_of kind f) ++ 10 ∷ []

-- the line of a field that the kind has
unfoldable pub field_text : Kind → (ℕ → Float) → ℕ → List ℕ
field_text kind place f = cond (has_field kind f) (line_text kind place f) []

-- fields count from 1
unfoldable pub text_of : Kind → (ℕ → Float) → List ℕ
text_of kind place = in_turn (λ (i : ℕ). field_text kind place (suc i)) FIELDS
