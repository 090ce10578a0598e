-- A text's lines. Definitions only.
use Rattle.std.specs.Prelude.{ℕ, Bool, cond, List, [], ◌∷◌, eqb, take, drop}
use Rattle.lines.specs.Pieces.{pieces}
use Rattle.lines.specs.Alike.{alike}

-- LF
abbrev pub is_line_feed : ℕ → Bool
is_line_feed b = eqb b 10

-- A line ends at a line feed or at the text's end. After a line feed at the very end there is one line more, with nothing in it.
unfoldable pub lines_of : List ℕ → List (List ℕ)
lines_of text = pieces is_line_feed text

-- UTF-8's byte-order mark
abbrev pub mark : List ℕ
mark = 0xEF ∷ 0xBB ∷ 0xBF ∷ []

-- where a text starts: after the mark, if it has one
unfoldable pub start_of : List ℕ → ℕ
start_of text = cond (alike (take 3 text) mark) 3 0

-- a text without its mark
abbrev pub unmarked : List ℕ → List ℕ
unmarked text = drop (start_of text) text
