-- Not of the rule: how the code walks along a text's lines, and what it can write. No public contract cites it. Definitions only.
use Rattle.std.specs.Prelude.{◌≡◌, ℕ, ◌+◌, ◌≤◌, ◌<◌, Bool, true, false, cond, eqb, Option, Some, None, List, length}
use Rattle.lines.specs.Words.{words_of}
use Rattle.floats.specs.Ranges.{all_finite}
use Rattle.station.specs.Record.{floats_of}
use Rattle.card.specs.declared.Reading.{Reading}
use Rattle.card.specs.declared.line.Line.{Line}
use Rattle.card.specs.Card.{card_of, line_at}

-- r is line i of a text
pub record IsLine (text : List ℕ) (i : ℕ) (r : Line) : Type 0 where
  pub number : r.number ≡ i
  pub words : words_of r.words.now ≡ line_at (card_of text) i

-- line i + 1 didn't pass a test, by what the calls of the test return
pub record Failed (text : List ℕ) (Returns : Line → Bool → Type 0) (i : ℕ) : Type 0 where
  pub line : Line
  pub number : line.number ≡ i + 1
  pub its : IsLine text line.number line
  pub failed : Returns line false

-- r is the first line that passes, by what those calls return
pub record FirstAt (text : List ℕ) (Returns : Line → Bool → Type 0) (r : Line) : Type 0 where
  pub its : IsLine text r.number r
  pub counted : 0 < r.number
  pub within : r.number ≤ length (card_of text)
  pub before : (i : ℕ) → i + 1 < r.number → Failed text Returns i
  pub here : Returns r true

-- what a search for a line answers: the first that passes, or none, where none does
unfoldable pub FirstLine : List ℕ → (Line → Bool → Type 0) → Option Line → Type 0
FirstLine text Returns None = (i : ℕ) → i < length (card_of text) → Failed text Returns i
FirstLine text Returns (Some r) = FirstAt text Returns r

-- line i of a text as the code answers it, where line 0 is none
unfoldable pub IsFound : List ℕ → ℕ → Option Line → Type 0
IsFound text i None = i ≡ 0
IsFound text i (Some r) = (0 < i) × IsLine text i r

-- a number that the rule counts from 1 as the code answers it, where 0 is none
abbrev pub found : ℕ → Option ℕ
found n = cond (eqb n 0) None (Some n)

-- the record's writer takes the station
pub record Writable (r : Reading) : Type 0 where
  pub finite : all_finite (floats_of r.station) ≡ true
  pub mode : r.station.mode ≤ 3
