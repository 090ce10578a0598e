-- Document 02, card 8: a book's rows, and which are bad. Definitions only.
use Rattle.std.specs.Prelude.{ℕ, Bool, not, ◌&&◌, ◌||◌, List, [], ◌∷◌, get_or, ltb, leb}
use Rattle.bandbook.specs.declared.rows.Row.{Row}

-- the rows of a list of words, three each: low kHz, high kHz, station id. Words that make no whole row count for nothing
unfoldable pub rows_in : List ℕ → List Row
rows_in [] = []
rows_in (a ∷ []) = []
rows_in (a ∷ b ∷ []) = []
rows_in (a ∷ b ∷ c ∷ rest) = record { low = a; high = b; id = c } ∷ rows_in rest

-- low below high, both in the span from 2,000 to 30,000, and an id from 1 to 65,535
unfoldable pub row_ok : Row → Bool
row_ok r = ltb r.low r.high && leb 2000 r.low && leb r.high 30000 && ltb 0 r.id && leb r.id 65535

-- what stands past the last row
abbrev pub no_row : Row
no_row = record { low = 0; high = 0; id = 0 }

-- the row at a place, counted from 0
abbrev pub row : List Row → ℕ → Row
row rows i = get_or rows i no_row

-- a row is bad by what it says, or as a 65th or later one
unfoldable pub bad_row : List Row → ℕ → Bool
bad_row rows i = leb 64 i || not (row_ok (row rows i))
