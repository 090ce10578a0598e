-- The table of the fields: which kinds of card have one, how many numbers it has, and where they go. Definitions only.
use Rattle.std.specs.Prelude.{ℕ, ◌+◌, ◌-◌, Bool, not, cond, ◌&&◌, ◌||◌, List, [], ◌∷◌, leb, ltb, eqb, get_or}
use Rattle.fields.specs.declared.Kind.{Kind}
use Rattle.fields.specs.declared.table.Row.{Row}
use Rattle.fields.specs.declared.table.Source.{Source}
use Rattle.fields.specs.Least.{least}
use Rattle.fields.specs.Names.{TYPE, GROUND, DIPOLES, HEIGHT, SLEW, SCREEN, REFLECTOR, START, ELEMENTS, LENGTHS, BOOM, HEIGHTS, FEEDER, LEG, ANGLE, BAYS, STACKS, DIPOLE, SPACING, EXCITATION, GAIN, GAIN_RATIO, GAIN_MHZ, MHZ, DESIGN, ELEVATION}

-- the curtain's number among the types
abbrev pub CURTAIN : ℕ
CURTAIN = 10

-- a field of the types `from` to `to`, with `count` numbers for the places from `first` on. Places 0 to 19 are the slots, 20 to 25 the gains by ratio, 26 to 55 those by MHz, 56 MHz, 57 design MHz, 58 the elevation.
abbrev pub row : ℕ → ℕ → ℕ → ℕ → ℕ → List ℕ
row field from to first count = field ∷ from ∷ to ∷ first ∷ count ∷ []

-- A field whose number goes to two places has two rows, the slot's first. The type is a field of every card, also where it isn't known.
unfoldable pub rows : List (List ℕ)
rows =
    row TYPE 0 CURTAIN 1 1
    ∷ row GROUND 1 9 2 2
    ∷ row DIPOLES 1 4 5 2
    ∷ row HEIGHT 1 4 8 1
    ∷ row HEIGHT 7 9 6 1
    ∷ row HEIGHT CURTAIN CURTAIN 9 1
    ∷ row SLEW 1 4 9 1
    ∷ row SLEW CURTAIN CURTAIN 14 1
    ∷ row SCREEN 1 1 10 3
    ∷ row SCREEN CURTAIN CURTAIN 12 1
    ∷ row REFLECTOR 2 3 10 1
    ∷ row START 1 1 13 2
    ∷ row START 2 3 11 2
    ∷ row START 4 4 10 2
    ∷ row START 8 9 10 2
    ∷ row ELEMENTS 5 6 5 1
    ∷ row LENGTHS 5 6 6 2
    ∷ row BOOM 5 6 8 1
    ∷ row HEIGHTS 5 6 9 2
    ∷ row FEEDER 5 6 11 1
    ∷ row LEG 7 7 5 1
    ∷ row ANGLE 7 7 7 1
    ∷ row BAYS CURTAIN CURTAIN 5 1
    ∷ row STACKS CURTAIN CURTAIN 6 1
    ∷ row DIPOLE CURTAIN CURTAIN 8 1
    ∷ row SPACING CURTAIN CURTAIN 10 2
    ∷ row EXCITATION CURTAIN CURTAIN 13 1
    ∷ row GAIN 1 9 0 1
    ∷ row GAIN_RATIO 1 4 20 6
    ∷ row GAIN_RATIO 8 9 20 6
    ∷ row GAIN_MHZ 1 9 26 30
    ∷ row MHZ 1 CURTAIN 4 1
    ∷ row MHZ 1 CURTAIN 56 1
    ∷ row DESIGN 1 4 7 1
    ∷ row DESIGN 8 9 5 1
    ∷ row DESIGN CURTAIN CURTAIN 7 1
    ∷ row DESIGN 1 4 57 1
    ∷ row DESIGN 8 CURTAIN 57 1
    ∷ row ELEVATION 1 CURTAIN 58 1 ∷ []

-- the last row's number
abbrev pub LAST : ℕ
LAST = 39

-- row r, from 1; no other has a field
unfoldable pub row_number : ℕ → Row
row_number r =
    let it = get_or (row 0 0 0 0 0 ∷ rows) r [] in
    record { field = get_or it 0 0; from = get_or it 1 0; to = get_or it 2 0; first = get_or it 3 0; count = get_or it 4 0 }

-- the fields of which a card of types 1 to 9 has one
unfoldable pub is_maximum_gain : ℕ → Bool
is_maximum_gain f = eqb f GAIN || eqb f GAIN_RATIO || eqb f GAIN_MHZ

-- the mode that such a field stands for
unfoldable pub mode_of : ℕ → ℕ
mode_of f = cond (eqb f GAIN_RATIO) 1 (cond (eqb f GAIN_MHZ) 2 0)

-- a row of this kind: its type is among the row's, and of the maximum gains a kind has its mode's alone
unfoldable pub in_kind : Kind → Row → Bool
in_kind kind it = leb it.from kind.iant && leb kind.iant it.to && (not (is_maximum_gain it.field) || eqb (mode_of it.field) kind.mode)

-- which of a row's numbers, from 1, goes to place p; 0 where none does
unfoldable pub number_in : Row → ℕ → ℕ
number_in it p = cond (leb it.first p && ltb (p - it.first) it.count) (p - it.first + 1) 0

-- the first row of a kind with this field
abbrev pub is_row_of : Kind → ℕ → ℕ → Bool
is_row_of kind f r = in_kind kind (row_number r) && eqb (row_number r).field f

unfoldable pub row_of : Kind → ℕ → ℕ
row_of kind f = least (is_row_of kind f) LAST

-- the first row of a kind with a number for this place
abbrev pub is_row_at : Kind → ℕ → ℕ → Bool
is_row_at kind p r = in_kind kind (row_number r) && not (eqb (number_in (row_number r) p) 0)

unfoldable pub row_at : Kind → ℕ → ℕ
row_at kind p = least (is_row_at kind p) LAST

unfoldable pub has_field : Kind → ℕ → Bool
has_field kind f = not (eqb (row_of kind f) 0)

-- how many numbers a field has
unfoldable pub count_of : Kind → ℕ → ℕ
count_of kind f = (row_number (row_of kind f)).count

-- the place of its first number; the others go to the places behind it
unfoldable pub first_place : Kind → ℕ → ℕ
first_place kind f = (row_number (row_of kind f)).first

-- the field that has place p, and which of its numbers stands there; field 0 where none has
unfoldable pub source_of : Kind → ℕ → Source
source_of kind p = let it = row_number (row_at kind p) in record { field = it.field; number = number_in it p }
