-- A line's words. Definitions only.
use Rattle.std.specs.Prelude.{◌≡◌, ℕ, ◌-◌, ◌≤◌, Bool, ◌||◌, List, [], ◌∷◌, eqb, length, take, drop, get_or}
use Rattle.lines.specs.Pieces.{up_to, pieces}
use Rattle.lines.specs.declared.Span.{Span}

-- #
abbrev pub is_remark : ℕ → Bool
is_remark b = eqb b 35

-- a space, a tab or CR
abbrev pub is_blank : ℕ → Bool
is_blank b = eqb b 32 || eqb b 9 || eqb b 13

-- those that aren't empty
unfoldable pub filled : List (List ℕ) → List (List ℕ)
filled [] = []
filled ([] ∷ ps) = filled ps
filled ((b ∷ p) ∷ ps) = (b ∷ p) ∷ filled ps

-- words are maximal runs of bytes that aren't blank: what stands between blanks, where that is something
unfoldable pub runs_of : List ℕ → List (List ℕ)
runs_of s = filled (pieces is_blank s)

-- a line's words; from # on the rest of a line is a remark, wherever it stands
unfoldable pub words_of : List ℕ → List (List ℕ)
words_of line = runs_of (up_to is_remark line)

-- the word of index k, counted from 0, is line[from..to]; past the last word that is empty
pub record IsWord (line : List ℕ) (k : ℕ) (r : Span) : Type 0 where
  pub bytes : take (r.to - r.from) (drop r.from line) ≡ get_or (words_of line) k []
  pub ordered : r.from ≤ r.to
  pub inside : r.to ≤ length line
