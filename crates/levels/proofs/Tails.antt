-- Laws of `tail`. Assumes nothing.
use mathlib.Core.Path.{◌≡◌, refl, sym, ap, ◌∙◌}
use mathlib.Core.Bool.{Bool, true, false}
use mathlib.Core.List.{List, [], ◌∷◌, ◌++◌}
use Prim.Native.Nat.{ℕ, suc, ◌+◌, ◌-◌, ◌≤◌}
use native.Mathlib.Omega.{arith}
use lib.ListN.{length, length-append, length-drop, drop}
use lib.Seq.{drop-append-le, drop-drop}
use lib.Dec.{leb}
use lib.Ieee.{Float}
use borrow.Author.Tests.{leb-true, leb-false}
use Rattle.levels.specs.Run.{tail}

pub tail_all : (xs : List Float) → length xs ≤ 64 → tail xs ≡ xs
unfolding tail
tail_all xs h = let e : length xs - 64 ≡ 0 = omega arith in rw e

pub tail_one_off : (x : Float) (xs : List Float) → length xs ≡ 64 → tail (x ∷ xs) ≡ xs
unfolding tail
tail_one_off x xs h = let e : suc (length xs) - 64 ≡ 1 = omega arith in rw e

-- what the tail leaves out stays out
pub tail_more : (xs : List Float) (x : Float) → tail (tail xs ++ (x ∷ [])) ≡ tail (xs ++ (x ∷ []))
unfolding tail
tail_more xs x = by (leb (length xs) 64) refl
  where
    k : ℕ
    k = length xs - 64

    by : (b : Bool) → leb (length xs) 64 ≡ b → tail (tail xs ++ (x ∷ [])) ≡ tail (xs ++ (x ∷ []))
    by true h = ap (λ (l : List Float). tail (l ++ (x ∷ []))) (tail_all xs (leb-true (length xs) 64 h))
    by false h =
        let over = leb-false (length xs) 64 h in
        let short : length (drop k xs ++ (x ∷ [])) - 64 ≡ 1 = rw (length-append, length-drop) (omega arith) in
        let long : length (xs ++ (x ∷ [])) - 64 ≡ k + 1 = rw length-append (omega arith) in
        rw (short, long)
        (drop-append-le 1 (drop k xs) (x ∷ []) (rw length-drop (omega arith))
        ∙ ap (λ (l : List Float). l ++ (x ∷ [])) (drop-drop 1 k xs)
        ∙ sym (drop-append-le (k + 1) xs (x ∷ []) (omega arith)))
