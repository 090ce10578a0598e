-- Laws of `laid`, over any elements. Assumes nothing.
use mathlib.Core.Path.{◌≡◌, sym, ap, ◌∙◌}
use Prim.Native.Nat.{ℕ, suc, ◌+◌, ◌≤◌, ◌<◌}
use native.Mathlib.Nat.{add-zero, zero-add, add_assoc}
use native.Mathlib.Numerals.{add-one}
use native.Mathlib.Omega.{arith}
use mathlib.Core.List.{List, [], ◌∷◌, ◌++◌, append_assoc, append-nil}
use lib.ListN.{length, take, drop, set, length-append, length-take, length-drop, take-append-drop, drop_of_length-le}
use lib.Seq.{set_split, append_snoc, take_at, drop-append-add, length-take-le, drop-drop, take-length, paste, sets, sets-eq}
use Rattle.words.specs.Laid.{laid}

module _ {A : Type 0} where
  -- nothing
  pub laid_none : (l : List A) (k : ℕ) → l ≡ laid l k []
  unfolding laid
  laid_none l k = sym (rw add-zero (ap (λ (x : List A). x ++ drop k l) (append-nil (take k l)) ∙ take-append-drop k l))

  -- one element, which is a store
  pub laid_one : (l : List A) (k : ℕ) (x : A) → k < length l → set l k x ≡ laid l k (x ∷ [])
  unfolding laid
  laid_one l k x h = rw add-one (set_split l k x h ∙ sym (append_snoc (take k l) x (drop (suc k) l)))

  -- a run of stores
  pub laid-sets : (l : List A) (k : ℕ) (s : List A) → k + length s ≤ length l → sets l k s ≡ laid l k s
  unfolding laid
  laid-sets l k s h = sets-eq s l k h

  -- the end of a loop that copies s, element by element
  pub laid_pasted : (l : List A) (k : ℕ) (s : List A) (n : ℕ) → n ≡ length s → paste l k s n ≡ laid l k s
  unfolding laid
  laid_pasted l k s n e = rw (e, take-length)

  -- what is laid next to each other is laid at once
  pub laid_more : (l : List A) (k next : ℕ) (s t : List A) → next ≡ k + length s → next ≤ length l → laid (laid l k s) next t ≡ laid l k (s ++ t)
  unfolding laid
  laid_more l k next s t e h =
      let rest = drop (k + length s) l in
      let front = take k l ++ s in
      let n : length front ≡ next = length-append (take k l) s ∙ omega (arith, length-take-le k l (omega arith)) in
      ap (λ (x : List A). x ++ t ++ drop (next + length t) (front ++ rest)) (take_at front rest next n)
      ∙ ap (λ (i : ℕ). front ++ t ++ drop (i + length t) (front ++ rest)) (sym n)
      ∙ ap (λ (x : List A). front ++ t ++ x) (drop-append-add front rest (length t) ∙ drop-drop (length t) (k + length s) l)
      ∙ ap (λ (x : List A). x ++ drop (k + length s + length t) l) (append_assoc (take k l) s t)
      ∙ ap (λ (i : ℕ). take k l ++ (s ++ t) ++ drop i l) (add_assoc k (length s) (length t) ∙ ap (λ (i : ℕ). k + i) (sym (length-append s t)))

  pub take_laid : (l : List A) (k : ℕ) (s : List A) (n : ℕ) → n ≡ k + length s → k ≤ length l → take n (laid l k s) ≡ take k l ++ s
  unfolding laid
  take_laid l k s n e h =
      take_at (take k l ++ s) (drop (k + length s) l) n (length-append (take k l) s ∙ omega (arith, length-take-le k l h))

  pub laid-length : (l : List A) (k : ℕ) (s : List A) → k + length s ≤ length l → length (laid l k s) ≡ length l
  unfolding laid
  laid-length l k s h = simp (length-append, length-take, length-drop) (omega arith)

  -- from the start on: s, then what it leaves
  pub laid_front : (l s : List A) → laid l 0 s ≡ s ++ drop (length s) l
  unfolding laid
  laid_front l s = rw zero-add

  -- as many as there are
  pub laid-whole : (l s : List A) → length s ≡ length l → laid l 0 s ≡ s
  laid-whole l s e = laid_front l s ∙ ap (λ (r : List A). s ++ r) (drop_of_length-le l {i = length s} (omega arith)) ∙ append-nil s

  -- as many as there are, the first by a store
  pub laid-first : (x : A) (l s : List A) → length l ≡ 1 + length s → laid (set l 0 x) 1 s ≡ x ∷ s
  laid-first x l s e =
      ap (λ (r : List A). laid r 1 s) (laid_one l 0 x (omega arith))
      ∙ laid_more l 0 1 (x ∷ []) s (omega arith) (omega arith)
      ∙ laid-whole l (x ∷ s) (omega arith)
