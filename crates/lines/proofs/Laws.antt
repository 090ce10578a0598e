-- What lines, words and equal texts are, for the crates above. Assumes nothing.
use mathlib.Core.Path.{◌≡◌, refl, sym, ap, ◌∙◌}
use Prim.Native.Nat.{ℕ, suc, ◌+◌, ◌-◌, ◌≤◌, ◌<◌}
use native.Mathlib.Omega.{arith}
use mathlib.Core.Bool.{Bool, true, false, ◌&&◌}
use mathlib.Core.List.{List, [], ◌∷◌}
use lib.Dec.{eqb}
use lib.ListN.{length, take, drop, length-drop, length-take}
use lib.Seq.{drop-drop}
use Rattle.std.proofs.Common.{nat_eq}
use Rattle.std.specs.Cmp.Lexicographic.{pointwise}
use Rattle.std.specs.List.{starts_with}
use Rattle.std.proofs.lemmas.Bool.Decides.{same_from_decides}
use Rattle.std.proofs.lemmas.Slice.Eq.{bytes_eq-Decides}
use borrow.Author.Tests.{eqb-true, eq-eqb}
use Rattle.lines.specs.Pieces.{up_to, end_from, pieces}
use Rattle.lines.specs.Lines.{is_line_feed, lines_of, mark, start_of}
use Rattle.lines.specs.Alike.{alike}
use Rattle.lines.proofs.Runs.{by_test, end_run, end_le, end_before, end_length, end_bytes, pieces-first, pieces-later, pieces-last}

-- ---- equal texts

pub alike_equal : (s t : List ℕ) → alike s t ≡ true → s ≡ t
unfolding alike
alike_equal [] [] e = refl
alike_equal [] (y ∷ t) e = let z : ◌≡◌ {A = ℕ} 0 1 = cc in absurd (omega arith)
alike_equal (x ∷ s) [] e = let z : ◌≡◌ {A = ℕ} 0 1 = cc in absurd (omega arith)
alike_equal (x ∷ s) (y ∷ t) e = go (eqb x y) refl (alike_equal s t) e
  where
    go : (b : Bool) → eqb x y ≡ b → (alike s t ≡ true → s ≡ t) → (b && alike s t) ≡ true → (x ∷ s) ≡ (y ∷ t)
    go true q rest e = cc (eqb-true x y q, rest e)
    go false q rest e = let z : ◌≡◌ {A = ℕ} 0 1 = cc in absurd (omega arith)

pub alike_same : (s : List ℕ) → alike s s ≡ true
unfolding alike
alike_same [] = refl
alike_same (x ∷ s) = rw (eq-eqb x x refl) (alike_same s)

pub alike-other : (s t : List ℕ) → (s ≡ t → ⊥) → alike s t ≡ false
alike-other s t h = by_test (alike s t) (λ e. absurd (h (alike_equal s t e))) (λ e. e)

-- as the code compares them
pub alike_is : (s t : List ℕ) → pointwise nat_eq s t ≡ alike s t
alike_is s t = same_from_decides (pointwise nat_eq s t) (alike s t) (bytes_eq-Decides s t) (alike_equal s t, λ e. rw (← e) (alike_same s))

pub mark_starts : (text : List ℕ) → starts_with nat_eq text mark ≡ alike (take 3 text) mark
mark_starts text =
    same_from_decides (pointwise nat_eq mark (take 3 text)) (alike (take 3 text) mark) (bytes_eq-Decides mark (take 3 text))
    (λ e. sym (alike_equal (take 3 text) mark e), λ e. rw (← e) (alike_same mark))

-- ---- lines

-- a text starts in it
pub start-inside : (text : List ℕ) → start_of text ≤ length text
unfolding start_of
start-inside text =
    by_test (alike (take 3 text) mark)
    (λ e. rw e (omega (arith, ap length (alike_equal (take 3 text) mark e), length-take 3 text)))
    (λ e. rw e (omega arith))

-- The walk along a text by its lines' ends. The line at an index of the text ends in the text, not before the index.
module _ (text : List ℕ) (at : ℕ) where
  pub line-inside : end_from is_line_feed text at ≤ length text
  line-inside = end_le is_line_feed text at

  pub line_forward : at ≤ length text → at ≤ end_from is_line_feed text at
  line_forward h = omega (arith, end_run is_line_feed text at h)

  first-line : lines_of (drop at text) ≡ take (end_from is_line_feed text at - at) (drop at text) ∷ drop 1 (lines_of (drop at text))
  unfolding lines_of
  first-line = rw (end_bytes is_line_feed text at) (pieces-first is_line_feed (drop at text))

  -- where it ends before the text does, the next line starts after its line feed
  pub lines_more : end_from is_line_feed text at < length text
      → lines_of (drop at text) ≡ take (end_from is_line_feed text at - at) (drop at text) ∷ lines_of (drop (end_from is_line_feed text at + 1) text)
  unfolding lines_of
  lines_more h =
      let u = drop at text in
      let n = length (up_to is_line_feed u) in
      let here : at < length text = end_before is_line_feed text at h in
      let next : at + suc n ≡ end_from is_line_feed text at + 1 = omega (arith, end_run is_line_feed text at (omega arith)) in
      first-line
      ∙ ap (λ (ls : List (List ℕ)). take (end_from is_line_feed text at - at) u ∷ ls) (
      pieces-later is_line_feed u (omega (arith, length-drop at text))
      ∙ ap (pieces is_line_feed) (drop-drop (suc n) at text ∙ ap (λ (k : ℕ). drop k text) next)
      )

  -- where it ends with the text, it is the last
  pub lines-last : end_from is_line_feed text at ≡ length text
      → lines_of (drop at text) ≡ take (end_from is_line_feed text at - at) (drop at text) ∷ []
  unfolding lines_of
  lines-last h =
      first-line
      ∙ ap (λ (ls : List (List ℕ)). take (end_from is_line_feed text at - at) (drop at text) ∷ ls) (
      pieces-last is_line_feed (drop at text) (omega (arith, length-drop at text, end_length is_line_feed text at))
      )
