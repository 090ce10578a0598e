-- Document 02, card 8: what the answers say of a book, in the card's sentences. Definitions only.
use Rattle.std.specs.Prelude.{◌≡◌, ℕ, ◌%◌, ◌≤◌, ◌<◌, true, false, List, ◌⊎◌, length}
use Rattle.answers.specs.Refusals.{ROW, GAP, OVERLAP}
use Rattle.bandbook.specs.Answers.{accepted, refused_at}
use Rattle.bandbook.specs.declared.rows.Row.{Row}
use Rattle.bandbook.specs.Rows.{rows_in, row, row_ok}
use Rattle.bandbook.specs.Coverage.{covers, covering}
use Rattle.bandbook.specs.Book.{book_of, station_for}

-- at most 64 rows, and none of them bad
pub record GoodRows (rows : List Row) : Type 0 where
  pub few : length rows ≤ 64
  pub ok : (i : ℕ) → i < length rows → row_ok (row rows i) ≡ true

-- "covers every whole kHz from 2,000 up to, not including, 30,000 just once"
pub record GoodBook (words : List ℕ) : Type 0 where
  pub whole : length words % 3 ≡ 0
  pub rows : GoodRows (rows_in words)
  pub once : (khz : ℕ) → 2000 ≤ khz → khz < 30000 → covering (rows_in words) khz ≡ 1

-- the row at the place covers the kHz, and no other row does
pub record OnlyRow (rows : List Row) (khz place : ℕ) : Type 0 where
  pub within : place < length rows
  pub covered : covers khz (row rows place) ≡ true
  pub alone : (other : ℕ) → other < length rows → covers khz (row rows other) ≡ true → other ≡ place

-- one row covers the kHz, and the lookup answers its id
pub record OneStation (words : List ℕ) (khz : ℕ) : Type 0 where
  pub place : ℕ
  pub only : OnlyRow (rows_in words) khz place
  pub answer : station_for words khz ≡ accepted (row (rows_in words) place).id

-- the row is the 65th or bad in itself, and those before it are good
pub record IsFirstBad (rows : List Row) (i : ℕ) : Type 0 where
  pub within : i < length rows
  pub up_to : i ≤ 64
  pub bad : (i ≡ 64) ⊎ (row_ok (row rows i) ≡ false)
  pub before : (j : ℕ) → j < i → row_ok (row rows j) ≡ true

-- no row is bad, the kHz lies in the span, and every lower one there is covered just once
pub record OnceBelow (rows : List Row) (khz : ℕ) : Type 0 where
  pub rows_good : GoodRows rows
  pub from : 2000 ≤ khz
  pub up_to : khz < 30000
  pub below : (k : ℕ) → 2000 ≤ k → k < khz → covering rows k ≡ 1

-- what a refusal's number and place say
pub data Reported (rows : List Row) : ℕ → ℕ → Type 0 where
  first_row : {i : ℕ} → IsFirstBad rows i → Reported rows ROW i
  lowest_gap : {khz : ℕ} → OnceBelow rows khz → covering rows khz ≡ 0 → Reported rows GAP khz
  lowest_overlap : {khz : ℕ} → OnceBelow rows khz → 2 ≤ covering rows khz → Reported rows OVERLAP khz

-- two books that both have a bad row, or that answer alike
pub data Alike (a b : List ℕ) : Type 0 where
  both_bad : {i j : ℕ} → book_of a ≡ refused_at ROW i → book_of b ≡ refused_at ROW j → Alike a b
  answer_alike : book_of a ≡ book_of b → ((khz : ℕ) → station_for a khz ≡ station_for b khz) → Alike a b
