-- The screen, from folds that begin with the first level itself. Assumes nothing.
use mathlib.Core.Path.{◌≡◌, refl, sym, ap, ◌∙◌}
use mathlib.Core.Bool.{Bool, true, false, cond}
use mathlib.Core.List.{List, [], ◌∷◌, ◌++◌, map, map-append, foldl, foldl-append}
use Prim.Native.Nat.{ℕ, suc, ◌<◌}
use native.Mathlib.Omega.{arith}
use lib.ListN.{length, length-map, get_or}
use lib.Ieee.{Float, lt}
use Rattle.std.proofs.Common.{Some}
use Rattle.levels.specs.Shown.{levels, greater, lesser, screen_of}

either : (b : Bool) (x : Float) → cond b x x ≡ x
either true x = refl
either false x = refl

from_first : (f : ℕ → Float) (ws : List ℕ) → 0 < length ws
    → Some (levels (length ws) (foldl greater (f (get_or ws 0 0)) (map f ws)) (foldl lesser (f (get_or ws 0 0)) (map f ws))) ≡ screen_of (map f ws)
unfolding greater lesser screen_of
from_first f [] h = absurd (omega arith)
from_first f (w ∷ ws) h =
    let e = either (lt (f w) (f w)) (f w) in
    ap (λ (y : Float). Some (levels (length (w ∷ ws)) (foldl greater y (map f ws)) (foldl lesser y (map f ws)))) e
    ∙ ap (λ (n : ℕ). Some (levels (suc n) (foldl greater (f w) (map f ws)) (foldl lesser (f w) (map f ws)))) (sym (length-map ws f))

-- the same in two parts, the earlier first: the folds over the later part go on from those over the earlier
pub in_two_parts : (f : ℕ → Float) (xs ys : List ℕ) (n : ℕ) → length (xs ++ ys) ≡ n → 0 < n → (x : Float) → x ≡ f (get_or (xs ++ ys) 0 0)
    → Some (levels n (foldl greater (foldl greater x (map f xs)) (map f ys)) (foldl lesser (foldl lesser x (map f xs)) (map f ys))) ≡ screen_of (map f (xs ++ ys))
in_two_parts f xs ys n e h x first =
    simp (← e, first, ← foldl-append, ← map-append f xs ys) (from_first f (xs ++ ys) (omega arith))
