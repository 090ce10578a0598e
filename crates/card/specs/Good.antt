-- What a good card is, sentence by sentence. No contract cites it: it is what the laws say that the reader accepts. Definitions only.
use Rattle.std.specs.Prelude.{◌≡◌, ℕ, ◌+◌, ◌≤◌, true, length, Float, None, Result, Ok}
use Rattle.std.specs.Float.Ieee.{eq}
use Rattle.floats.specs.Ops.{count}
use Rattle.decimal.specs.declared.NotRead.{NotRead}
use Rattle.decimal.specs.Reading as decimal
use Rattle.fields.specs.declared.Kind.{Kind}
use Rattle.fields.specs.Names.{TYPE, FIELDS}
use Rattle.fields.specs.Table.{CURTAIN, has_field, count_of}
use Rattle.fields.specs.Limits.{takes}
use Rattle.card.specs.Card.{Line, Card, word, field_in, line_at, line_of, line_for}
use Rattle.card.specs.Mistakes.{word_fault}
use Rattle.card.specs.Places.{twelve, placed}

-- a line that has as many numbers as its field is to have, and nothing is wrong with any
pub record GoodNumbers (kind : Kind) (line : Line) : Type 0 where
  pub counted : length line ≡ count_of kind (field_in line) + 1
  pub right : (k : ℕ) → 1 ≤ k → k ≤ count_of kind (field_in line) → word_fault kind (field_in line) k (word line k) ≡ None

-- line i names a field, of this kind, that no earlier line has
pub record GoodLine (kind : Kind) (card : Card) (i : ℕ) : Type 0 where
  pub known : 1 ≤ field_in (line_at card i)
  pub first : line_of card (field_in (line_at card i)) ≡ i
  pub its : has_field kind (field_in (line_at card i)) ≡ true
  pub numbers : GoodNumbers kind (line_at card i)

-- every line with words in it is a good one, and no field of the kind is missing
pub record GoodCard (kind : Kind) (card : Card) : Type 0 where
  pub lines : (i : ℕ) → 1 ≤ i → i ≤ length card → 1 ≤ length (line_at card i) → GoodLine kind card i
  pub typed : 1 ≤ line_of card TYPE
  pub whole : (f : ℕ) → 1 ≤ f → f ≤ FIELDS → has_field kind f ≡ true → 1 ≤ line_of card f

-- ---- what a good card's numbers are

-- a reading is a number that field f takes as its k-th
pub record Taken (kind : Kind) (f k : ℕ) (r : Result Float NotRead) (x : Float) : Type 0 where
  pub reads : r ≡ Ok x
  pub taken : takes kind f k x ≡ true

-- number k of field f reads as a float, which the field takes, and which stands in its place
pub record Stands (kind : Kind) (card : Card) (f k p : ℕ) : Type 0 where
  pub value : Float
  pub taken : Taken kind f k (decimal.read_of (word (line_for card f) k)) value
  pub place : placed kind card p ≡ value

-- slot 1 of a good card's station: the type 1 to 9, or 12 for the curtain
pub data TypeStands (kind : Kind) (card : Card) : Type 0 where
  curtain : kind.iant ≡ CURTAIN → placed kind card 1 ≡ twelve → TypeStands kind card
  numbered : 1 ≤ kind.iant → kind.iant ≤ 9 → eq (placed kind card 1) (count kind.iant) ≡ true → TypeStands kind card
