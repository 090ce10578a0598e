-- A station's words, one array after the other. Assumes nothing.
use mathlib.Core.Path.{◌≡◌, sym, ap, ◌∙◌}
use mathlib.Core.List.{List, ◌∷◌, ◌++◌, map-append}
use Prim.Native.Nat.{ℕ, ◌≤◌}
use native.Mathlib.Omega.{arith}
use lib.ListN.{length, take, drop, set, length-set, length-map, length-append, length-drop, length-take}
use lib.Seq.{take_all}
use lib.Ieee.{Float, binary32, to_bits}
use Rattle.packed.specs.Lists.{part, bits, floats}
use Rattle.words.specs.Laid.{laid}
use Rattle.words.proofs.Laid.{laid_more, laid-first}

-- as they are written
pub all_laid : (x : ℕ) (out : List ℕ) (p g b : List Float) → length p ≡ 20 → length g ≡ 6 → length b ≡ 30 → length out ≡ 57
    → laid (laid (laid (set out 0 x) 1 (bits p)) 21 (bits g)) 27 (bits b) ≡ x ∷ bits (p ++ g ++ b)
all_laid x out p g b lp lg lb lo =
    let lp' : length (bits p) ≡ 20 = length-map p (to_bits binary32) ∙ lp in
    let lg' : length (bits g) ≡ 6 = length-map g (to_bits binary32) ∙ lg in
    let lb' : length (bits b) ≡ 30 = length-map b (to_bits binary32) ∙ lb in
    let w = set out 0 x in
    let lw : length w ≡ 57 = length-set out 0 x ∙ lo in
    ap (λ (l : List ℕ). laid l 27 (bits b)) (laid_more w 1 21 (bits p) (bits g) (omega arith) (omega arith))
    ∙ laid_more w 1 27 (bits p ++ bits g) (bits b) (rw length-append (omega arith)) (omega arith)
    ∙ laid-first x out (bits p ++ bits g ++ bits b) (simp length-append (omega arith))
    ∙ ap (λ (l : List ℕ). x ∷ l) (sym (simp map-append))

-- as they are read: the last array has all that is left
pub last_array : (words : List ℕ) → take 30 (drop 26 (part (floats words) 1 56)) ≡ drop 26 (part (floats words) 1 56)
last_array words =
    let fs = part (floats words) 1 56 in
    let n : length (drop 26 fs) ≤ 30 = rw (length-drop, length-take) (omega arith) in
    take_all 30 (drop 26 fs) n
