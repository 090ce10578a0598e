-- A card's kind: its type, and its mode by the maximum gain field that it has. Definitions only.
use Rattle.std.specs.Prelude.{ℕ, Bool, cond, ◌&&◌, List, eqb, Float, Result, Ok, Err}
use Rattle.quoted.specs.Quoted.{quoted}
use Rattle.lines.specs.Alike.{alike}
use Rattle.decimal.specs.declared.NotRead.{NotRead}
use Rattle.decimal.specs.Reading as decimal
use Rattle.fields.specs.declared.Kind.{Kind}
use Rattle.fields.specs.Names.{TYPE, field_of}
use Rattle.fields.specs.Table.{CURTAIN, is_maximum_gain, mode_of, has_field}
use Rattle.fields.specs.Limits.{type_number}
use Rattle.card.specs.Card.{Card, word, field_in, line_at, line_for, line_with}

abbrev pub is_curtain : List ℕ → Bool
is_curtain w = alike (quoted "curtain") w

-- 1 to 9 for these numbers, 0 for another word that isn't one of them
unfoldable pub numbered_type : Result Float NotRead → ℕ
numbered_type (Ok x) = type_number x
numbered_type (Err e) = 0

unfoldable pub type_of : List ℕ → ℕ
type_of w = cond (is_curtain w) CURTAIN (numbered_type (decimal.read_of w))

unfoldable pub type_in : Card → ℕ
type_in card = type_of (word (line_for card TYPE) 1)

-- a word that decides the mode: it names a maximum gain that this type has
unfoldable pub decides : ℕ → List ℕ → Bool
decides iant w = let f = field_of w in is_maximum_gain f && has_field (record { iant = iant; mode = mode_of f }) f

-- the curtain's mode is 3; of the others the first line decides that can, and without one it is 0
unfoldable pub mode_in : ℕ → Card → ℕ
mode_in iant card = cond (eqb iant CURTAIN) 3 (mode_of (field_in (line_at card (line_with (decides iant) card))))

unfoldable pub kind_in : Card → Kind
kind_in card = record { iant = type_in card; mode = mode_in (type_in card) card }
