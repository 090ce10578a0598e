-- A card: a text's lines, each a list of words. Definitions only.
use Rattle.std.specs.Prelude.{ℕ, zero, suc, Bool, List, [], map, length, get_or}
use Rattle.lines.specs.Lines.{lines_of, unmarked}
use Rattle.lines.specs.Words.{words_of}
use Rattle.lines.specs.Alike.{alike}
use Rattle.fields.specs.Least.{least}
use Rattle.fields.specs.Names.{name_of, field_of}

abbrev pub Line : Type 0
Line = List (List ℕ)

abbrev pub Card : Type 0
Card = List Line

unfoldable pub card_of : List ℕ → Card
card_of text = map words_of (lines_of (unmarked text))

-- line i, from 1; there is nothing in line 0
unfoldable pub line_at : Card → ℕ → Line
line_at card zero = []
line_at card (suc i) = get_or card i []

-- a line's word k: word 0 names the field, the others are its numbers, from 1
abbrev pub word : Line → ℕ → List ℕ
word line k = get_or line k []

-- the field that a line is about, 0 for none
abbrev pub field_in : Line → ℕ
field_in line = field_of (word line 0)

-- the first line whose first word passes the test, 0 where none does
unfoldable pub line_with : (List ℕ → Bool) → Card → ℕ
line_with test card = least (λ (i : ℕ). test (word (line_at card i) 0)) (length card)

-- the first line whose first word is the field's name, 0 where there is none
abbrev pub line_of : Card → ℕ → ℕ
line_of card f = line_with (alike (name_of f)) card

-- the words of that line
abbrev pub line_for : Card → ℕ → Line
line_for card f = line_at card (line_of card f)
