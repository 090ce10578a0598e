-- What changes nothing in the words of a text's lines: a remark, a blank at a line's end, Windows' line ends, the byte-order mark. Assumes nothing.
use mathlib.Core.Path.{◌≡◌, refl, sym, ap, ◌∙◌}
use Prim.Native.Nat.{ℕ}
use mathlib.Core.Logic.{⊎_elim}
use mathlib.Core.Bool.{true, false, cond}
use mathlib.Core.List.{List, [], ◌∷◌, ◌++◌, append-nil, map}
use lib.Dec.{eqb}
use lib.ListN.{length, take, drop, take-append-drop}
use borrow.Author.Tests.{eqb-true}
use Rattle.lines.specs.Pieces.{up_to, longer, pieces}
use Rattle.lines.specs.Lines.{is_line_feed, lines_of, mark, start_of, unmarked}
use Rattle.lines.specs.Words.{is_remark, is_blank, filled, runs_of, words_of}
use Rattle.lines.specs.Alike.{alike}
use Rattle.lines.proofs.Laws.{alike_equal}
use Rattle.lines.proofs.Runs.{by_test, run_stops, run_goes, run_none, run_append, pieces-first, pieces_end}

-- ---- words

-- from # on a line says nothing
pub words-remark : (line rest : List ℕ) → words_of (line ++ (35 ∷ rest)) ≡ words_of line
unfolding words_of
words-remark line rest =
    ap runs_of (
    ⊎_elim (λ h. h)
    (λ h. h.1 ∙ ap (λ (l : List ℕ). line ++ l) (run_stops is_remark 35 rest refl) ∙ append-nil line ∙ sym h.0)
    (run_append is_remark line (35 ∷ rest))
    )

filled_end : (ps : List (List ℕ)) → filled (ps ++ ([] ∷ [])) ≡ filled ps
unfolding filled
filled_end [] = refl
filled_end ([] ∷ ps) = filled_end ps
filled_end ((b ∷ p) ∷ ps) = ap (λ (qs : List (List ℕ)). (b ∷ p) ∷ qs) (filled_end ps)

runs_end : (s : List ℕ) (b : ℕ) → is_blank b ≡ true → runs_of (s ++ (b ∷ [])) ≡ runs_of s
unfolding runs_of
runs_end s b e = rw (pieces_end is_blank s b e) (filled_end (pieces is_blank s))

last-blank : (s : List ℕ) (b : ℕ) → is_blank b ≡ true → runs_of (s ++ up_to is_remark (b ∷ [])) ≡ runs_of s
last-blank s b e =
    by_test (is_remark b)
    (λ d. rw (run_stops is_remark b [] d, append-nil s))
    (λ d. rw (run_goes is_remark b [] d, run_none is_remark) (runs_end s b e))

-- nor does a blank at a line's end, as CR
pub words-blank : (line : List ℕ) (b : ℕ) → is_blank b ≡ true → words_of (line ++ (b ∷ [])) ≡ words_of line
unfolding words_of
words-blank line b e =
    ⊎_elim (ap runs_of)
    (λ h. ap runs_of h.1 ∙ last-blank line b e ∙ ap runs_of (sym h.0))
    (run_append is_remark line (b ∷ []))

-- ---- lines

-- a line feed at the text's end adds a line with nothing in it
pub lines_feed : (text : List ℕ) → lines_of (text ++ (10 ∷ [])) ≡ lines_of text ++ ([] ∷ [])
unfolding lines_of
lines_feed text = pieces_end is_line_feed text 10 refl

-- a text as Windows writes it: CR before each LF
unfoldable pub windows : List ℕ → List ℕ
windows [] = []
windows (b ∷ s) = cond (is_line_feed b) (13 ∷ 10 ∷ windows s) (b ∷ windows s)

-- CR at the end of each line but the last
returned : List (List ℕ) → List (List ℕ)
returned [] = []
returned (l ∷ []) = l ∷ []
returned (l ∷ m ∷ ms) = (l ++ (13 ∷ [])) ∷ returned (m ∷ ms)

longer_returned : (b : ℕ) (l : List ℕ) (ls : List (List ℕ)) → longer b (returned (l ∷ ls)) ≡ returned ((b ∷ l) ∷ ls)
unfolding longer returned
longer_returned b l [] = refl
longer_returned b l (m ∷ ms) = refl

windows_lines : (text : List ℕ) → lines_of (windows text) ≡ returned (lines_of text)
unfolding lines_of windows returned pieces longer
windows_lines [] = refl
windows_lines (b ∷ s) =
    by_test (is_line_feed b)
    (λ e. rw (e, windows_lines s, pieces-first is_line_feed s))
    (λ e. rw (e, windows_lines s, pieces-first is_line_feed s, e) (longer_returned b (up_to is_line_feed s) (drop 1 (pieces is_line_feed s))))

returned_words : (ls : List (List ℕ)) → map words_of (returned ls) ≡ map words_of ls
unfolding returned
returned_words [] = refl
returned_words (l ∷ []) = refl
returned_words (l ∷ m ∷ ms) = rw (words-blank l 13 refl, returned_words (m ∷ ms))

-- ---- the mark

-- bytes that aren't of a line end
unfoldable Inline : List ℕ → Type 0
Inline [] = Unit {0}
Inline (y ∷ m) = (eqb 13 y ≡ false) × (eqb 10 y ≡ false) × Inline m

-- Windows' line ends leave such bytes at a text's start as they are, and make none
inline_starts : (m : List ℕ) → Inline m → (s : List ℕ) → alike (take (length m) (windows s)) m ≡ alike (take (length m) s) m
unfolding Inline alike windows
inline_starts [] h s = refl
inline_starts (y ∷ m) h [] = refl
inline_starts (y ∷ m) h (b ∷ s) =
    by_test (is_line_feed b)
    (λ e. rw (e, eqb-true b 10 e, h.0, h.1))
    (λ e. rw (e, inline_starts m h.2 s))

windows_unmarked : (text : List ℕ) → unmarked (windows text) ≡ windows (unmarked text)
unfolding start_of windows Inline
windows_unmarked text =
    let same = inline_starts mark (refl, refl, (refl, refl, (refl, refl, tt))) text in
    by_test (alike (take 3 text) mark)
    (λ e. rw (same, e) (ap (λ (t : List ℕ). drop 3 (windows t)) (sym (take-append-drop 3 text) ∙ ap (λ (t : List ℕ). t ++ drop 3 text) (alike_equal (take 3 text) mark e))))
    (λ e. rw (same, e))

-- a text as Windows writes it has the same words in its lines
pub windows_words : (text : List ℕ) → map words_of (lines_of (unmarked (windows text))) ≡ map words_of (lines_of (unmarked text))
windows_words text =
    ap (λ (t : List ℕ). map words_of (lines_of t)) (windows_unmarked text)
    ∙ ap (map words_of) (windows_lines (unmarked text))
    ∙ returned_words (lines_of (unmarked text))

-- a text after the mark is the text
pub unmarked-mark : (text : List ℕ) → unmarked (mark ++ text) ≡ text
unfolding start_of alike
unmarked-mark text = refl
