-- A part of a list, element by element. Assumes nothing.
use mathlib.Core.Path.{◌≡◌, refl, sym, ap, ◌∙◌}
use Prim.Native.Nat.{ℕ, zero, suc, ◌+◌, ◌≤◌}
use native.Mathlib.Nat.{add-suc}
use native.Mathlib.Omega.{arith}
use mathlib.Core.List.{List, [], ◌∷◌}
use lib.ListN.{length, take, drop, get_or}
use lib.Seq.{drop-cons}

-- n elements of l from at + i on
abbrev pub elements : List ℕ → ℕ → ℕ → ℕ → List ℕ
elements l at i zero = []
elements l at i (suc n) = get_or l (at + i) 0 ∷ elements l at (suc i) n

pub take-elements : (l : List ℕ) (at i n : ℕ) → at + i + n ≤ length l → take n (drop (at + i) l) ≡ elements l at i n
take-elements l at i zero h = refl
take-elements l at i (suc n) h =
    ap (take (suc n)) (drop-cons l (at + i) 0 (omega arith) ∙ ap (λ (k : ℕ). get_or l (at + i) 0 ∷ drop k l) (sym (add-suc at i)))
    ∙ ap (λ (r : List ℕ). get_or l (at + i) 0 ∷ r) (take-elements l at (suc i) n (omega arith))
