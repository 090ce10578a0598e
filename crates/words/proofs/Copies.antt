-- Loops that copy a list, element by element: what stands there after i turns, after one more, and after all. Assumes nothing.
use mathlib.Core.Path.{◌≡◌, sym, ap, ◌∙◌}
use mathlib.Core.List.{List, map}
use Prim.Native.Nat.{ℕ, ◌+◌, ◌<◌}
use native.Mathlib.Nat.{zero-add}
use native.Mathlib.Numerals.{add-one}
use native.Mathlib.Omega.{arith}
use lib.ListN.{length, drop, set, get_or, length-drop, length-map, get_or-map}
use lib.Seq.{paste, paste-suc, get_or-drop}
use Rattle.words.specs.Laid.{laid}
use Rattle.words.proofs.Laid.{laid_pasted}

-- elements of l, from `at` on, over those of out
module _ {A : Type 0} (out l : List A) (at : ℕ) where
  abbrev pub copied : ℕ → List A
  copied i = paste out 0 (drop at l) i

  pub copied_more : (i : ℕ) (d : A) → i < length out → at + i < length l → set (copied i) i (get_or l (at + i) d) ≡ copied (i + 1)
  copied_more i d ho hl =
      let room : 0 + i < length out = omega arith in
      let read : i < length (drop at l) = omega (arith, length-drop at l) in
      rw (add-one, ← get_or-drop at l i d)
      (ap (λ (k : ℕ). set (copied i) k (get_or (drop at l) i d)) (sym (zero-add i)) ∙ paste-suc out 0 (drop at l) i d room read)

-- words made of the elements of xs over those of out
module _ {A : Type 0} (word : A → ℕ) (out : List ℕ) (at : ℕ) (xs : List A) where
  abbrev pub written : ℕ → List ℕ
  written i = paste out at (map word xs) i

  pub written-more : (i : ℕ) (d : A) → at + i < length out → i < length xs → set (written i) (at + i) (word (get_or xs i d)) ≡ written (i + 1)
  written-more i d ho hx =
      rw (add-one, ← get_or-map word xs i d)
      (paste-suc out at (map word xs) i (word d) ho (omega (arith, length-map xs word)))

  pub written_all : written (length xs) ≡ laid out at (map word xs)
  written_all = laid_pasted out at (map word xs) (length xs) (sym (length-map xs word))
