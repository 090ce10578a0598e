-- Document 02, card 10: what each call answers, 0 or a refusal's number, and what it leaves in the lent buffers; a refusal leaves them as they were.
-- Definitions only.
use Rattle.std.specs.Prelude.{ℕ, cond, not, ◌&&◌, List, [], ◌∷◌, length, ltb, eqb, Float}
use Rattle.answers.specs.Refusals.{SPACE}
use Rattle.board_air.specs.Stations.{station, numbers_shown, ids_shown}
use Rattle.board_air.specs.Runs.{Call, join, leave, join_refusal, leave_refusal, without}
use Rattle.board_air.specs.Words.{board_size, words_of, stations_in, board_ok}

-- what is lent stays where the number is a refusal's
abbrev pub unless : {A : Type 0} → ℕ → A → A → A
unless number lent written = cond (ltb 0 number) lent written

-- ---- the board, emptied

unfoldable pub empty_answer : List ℕ → ℕ
empty_answer words = cond (not (eqb (length words) board_size)) SPACE 0

unfoldable pub empty_leaves : List ℕ → List ℕ
empty_leaves words = unless (empty_answer words) words (words_of [])

-- ---- a station joins

unfoldable pub join_answer : List ℕ → ℕ → List Float → ℕ
join_answer words id row = join_refusal (board_ok words) (stations_in words) id row

unfoldable pub join_leaves : List ℕ → ℕ → List Float → List ℕ
join_leaves words id row = unless (join_answer words id row) words (words_of (station id row ∷ stations_in words))

-- ---- a station leaves

unfoldable pub leave_answer : List ℕ → ℕ → ℕ
leave_answer words id = leave_refusal (board_ok words) (stations_in words) id

unfoldable pub leave_leaves : List ℕ → ℕ → List ℕ
leave_leaves words id = unless (leave_answer words id) words (words_of (without id (stations_in words)))

-- ---- the board, shown in the lent numbers and ids

unfoldable pub show_answer : List ℕ → ℕ → ℕ → ℕ
show_answer words numbers ids = cond (not (board_ok words && eqb numbers 360 && eqb ids 360)) SPACE 0

unfoldable pub show_numbers : List ℕ → List Float → List ℕ → List Float
show_numbers words numbers ids = unless (show_answer words (length numbers) (length ids)) numbers (numbers_shown (stations_in words))

unfoldable pub show_ids : List ℕ → List Float → List ℕ → List ℕ
show_ids words numbers ids = unless (show_answer words (length numbers) (length ids)) ids (ids_shown (stations_in words))

-- ---- runs of joins and leaves

unfoldable pub answer : List ℕ → Call → ℕ
answer words (join id row) = join_answer words id row
answer words (leave id) = leave_answer words id

unfoldable pub leaves : List ℕ → Call → List ℕ
leaves words (join id row) = join_leaves words id row
leaves words (leave id) = leave_leaves words id

unfoldable pub leaves_all : List ℕ → List Call → List ℕ
leaves_all words [] = words
leaves_all words (c ∷ cs) = leaves_all (leaves words c) cs

-- the words after a run from an empty board
unfoldable pub words_after : List Call → List ℕ
words_after cs = leaves_all (words_of []) cs
