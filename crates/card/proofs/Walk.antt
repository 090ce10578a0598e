-- The walk along a card's lines, by where each starts in the text. Assumes nothing.
use mathlib.Core.Path.{◌≡◌, refl, sym, ap, subst, ◌∙◌}
use mathlib.Core.Logic.{⊎_elim}
use mathlib.Core.Bool.{Bool, true, false, cond}
use mathlib.Core.List.{List, [], ◌∷◌, map}
use Prim.Native.Nat.{ℕ, suc, ◌+◌, ◌-◌, ◌≤◌, ◌<◌}
use native.Mathlib.Nat.{add-zero, eq-or-lt_of_le}
use native.Mathlib.Numerals.{add-one}
use native.Mathlib.Omega.{arith}
use lib.Dec.{leb}
use lib.ListN.{length, take, drop, get_or, length-drop}
use lib.Seq.{get_or-drop, drop-drop}
use borrow.Author.Tests.{le-leb, lt-leb}
use Rattle.lines.specs.Pieces.{end_from}
use Rattle.lines.specs.Lines.{is_line_feed, lines_of, start_of}
use Rattle.lines.specs.Words.{words_of}
use Rattle.lines.proofs.Laws.{start-inside, line-inside, line_forward, lines_more, lines-last}
use Rattle.card.specs.declared.line.Line.{Line}
use Rattle.card.specs.Card.{card_of, line_at}
use Rattle.std.specs.Prelude.{Option, Some, None}
use Rattle.fields.specs.Least.{least, FirstOf}
use Rattle.fields.proofs.Least.{least_is, least-all}
use Rattle.card.specs.Inner.{IsLine, IsFound, FirstLine}

-- the lines from an index on; behind the text's end there are none
pub lines_from : List ℕ → ℕ → List (List ℕ)
lines_from text at = cond (leb at (length text)) (lines_of (drop at text)) []

-- i lines were passed, and the next starts at `at`
pub record Walk (text : List ℕ) (i at : ℕ) : Type 0 where
  pub left : drop i (card_of text) ≡ map words_of (lines_from text at)
  pub counted : i ≤ at

pub walk_start : (text : List ℕ) (at : ℕ) → at ≡ start_of text → Walk text 0 at
unfolding card_of lines_from
walk_start text at e =
    let inside : at ≤ length text = omega (arith, start-inside text) in
    record { left = rw (le-leb at (length text) inside, e); counted = omega arith }

-- at the end all lines were passed
pub walk_end : {text : List ℕ} {i at : ℕ} → Walk text i at → length text < at → length (card_of text) ≤ i
unfolding lines_from
walk_end {text} {i} {at} w h =
    let none : drop i (card_of text) ≡ [] = rw (lt-leb at (length text) h) at w.left in
    omega (arith, length-drop i (card_of text), ap length none)

module _ {text : List ℕ} {i at to : ℕ} (w : Walk text i at) (h : at ≤ length text) (e : to ≡ end_from is_line_feed text at) where
  pub forward : at ≤ to
  forward = omega (arith, line_forward text at h)

  pub inside : to ≤ length text
  inside = omega (arith, line-inside text at)

  this_line : lines_from text at ≡ take (to - at) (drop at text) ∷ lines_from text (to + 1)
  unfolding lines_from
  this_line =
      rw (le-leb at (length text) h, e)
      (⊎_elim
      (λ (l : end_from is_line_feed text at ≡ length text). rw (lt-leb (end_from is_line_feed text at + 1) (length text) (omega arith)) (lines-last text at l))
      (λ (l : end_from is_line_feed text at < length text). rw (le-leb (end_from is_line_feed text at + 1) (length text) (omega arith)) (lines_more text at l))
      (eq-or-lt_of_le (line-inside text at)))

  left_here : drop i (card_of text) ≡ words_of (take (to - at) (drop at text)) ∷ map words_of (lines_from text (to + 1))
  left_here = w.left ∙ ap (map words_of) this_line

  -- the next line is the card's line i + 1
  pub next-words : line_at (card_of text) (suc i) ≡ words_of (take (to - at) (drop at text))
  unfolding line_at
  next-words = ap (λ (k : ℕ). get_or (card_of text) k []) (sym (add-zero i)) ∙ sym (get_or-drop i (card_of text) 0 []) ∙ ap (λ (l : List (List (List ℕ))). get_or l 0 []) left_here

  pub next-counted : i < length (card_of text)
  next-counted = omega (arith, length-drop i (card_of text), ap length left_here)

  pub next-line : {r : Line} → r.number ≡ i + 1 → r.words.now ≡ take (to - at) (drop at text) → IsLine text r.number r
  next-line {r} n e = record { number = refl; words = ap words_of e ∙ sym next-words ∙ ap (line_at (card_of text)) (sym (n ∙ add-one i)) }

  pub walk_on : Walk text (suc i) (to + 1)
  walk_on =
      record {
        left = ap (λ (k : ℕ). drop k (card_of text)) (sym (add-one i)) ∙ sym (drop-drop 1 i (card_of text)) ∙ ap (drop 1) left_here;
        counted = omega (arith, forward, w.counted);
      }

-- what a search for a line found, where the calls of its test return what `test` is of the line's number
pub first_line : (test : ℕ → Bool) (text : List ℕ) (Returns : Line → Bool → Type 0) (o : Option Line) → ((q : Line) (b : Bool) → IsLine text q.number q → Returns q b → b ≡ test q.number)
    → FirstLine text Returns o → IsFound text (least test (length (card_of text))) o
unfolding FirstLine IsFound
first_line test text Returns None same f = least-all test (length (card_of text)) (λ i h. let q = f i h in sym (rw (q.number, add-one) at (same q.line false q.its q.failed)))
first_line test text Returns (Some r) same f = subst (λ (k : ℕ). IsFound text k (Some r)) (least_is test (λ k b. b ≡ test k) (length (card_of text)) r.number (λ i b h p. rw add-one at p) first) (f.counted, f.its)
  where
    first : FirstOf (λ k b. b ≡ test k) (length (card_of text)) r.number
    first = record {
      within = f.within;
      before = λ i h z. let q = f.before i (⊎_elim (λ (e : r.number ≡ 0). absurd (omega (arith, f.counted, e))) (λ l. l) z) in rw q.number at (same q.line false q.its q.failed);
      here = λ h. same r true f.its f.here;
    }
