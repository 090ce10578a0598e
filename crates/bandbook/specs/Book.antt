-- Document 02, card 8: what a book and a lookup answer. Definitions only.
use Rattle.std.specs.Prelude.{Option, Some, None, ℕ, ◌%◌, Bool, cond, not, ◌&&◌, List, length, ltb, leb, eqb}
use Rattle.answers.specs.Refusals.{SPACE, ROW, GAP, OVERLAP}
use Rattle.bandbook.specs.Answers.{Answer, accepted, refused, refused_at}
use Rattle.bandbook.specs.declared.rows.Row.{Row}
use Rattle.bandbook.specs.Rows.{rows_in, bad_row}
use Rattle.bandbook.specs.Coverage.{covering, station_at}
use Rattle.bandbook.specs.Least.{least}

-- ---- what may be wrong with the rows

-- counted from 0
unfoldable pub first_bad_row : List Row → Option ℕ
first_bad_row rows = least (bad_row rows) (length rows) 0

-- a kHz that isn't covered just once
unfoldable pub bad_khz : List Row → ℕ → Bool
bad_khz rows khz = not (eqb (covering rows khz) 1)

-- of the 28,000 from 2,000 on
unfoldable pub lowest_bad_khz : List Row → Option ℕ
lowest_bad_khz rows = least (bad_khz rows) 28000 2000

-- ---- the answers

-- no row covers a bad kHz, or several do
unfoldable pub khz_fault : List Row → Option ℕ → Answer
khz_fault rows None = accepted 0
khz_fault rows (Some khz) = refused_at (cond (eqb (covering rows khz) 0) GAP OVERLAP) khz

abbrev pub khz_answer : List Row → Answer
khz_answer rows = khz_fault rows (lowest_bad_khz rows)

-- a bad row comes before any kHz
unfoldable pub row_fault : List Row → Option ℕ → Answer
row_fault rows None = khz_answer rows
row_fault rows (Some i) = refused_at ROW i

abbrev pub rows_answer : List Row → Answer
rows_answer rows = row_fault rows (first_bad_row rows)

-- 8 where the words aren't whole rows; 0 for a good book
unfoldable pub book_of : List ℕ → Answer
book_of words = cond (not (eqb (length words % 3) 0)) (refused SPACE) (rows_answer (rows_in words))

-- ---- the lookup

-- from 2,000 up to, not including, 30,000
unfoldable pub in_span : ℕ → Bool
in_span khz = leb 2000 khz && ltb khz 30000

unfoldable pub looked_up : List Row → ℕ → Answer
looked_up rows khz = cond (in_span khz) (accepted (station_at rows khz)) (refused ROW)

-- a bad book is turned away; the kHz is tested last
unfoldable pub after_book : Answer → List Row → ℕ → Answer
after_book (accepted good) rows khz = looked_up rows khz
after_book (refused number) rows khz = refused number
after_book (refused_at number place) rows khz = refused_at number place

unfoldable pub station_for : List ℕ → ℕ → Answer
station_for words khz = after_book (book_of words) (rows_in words) khz
