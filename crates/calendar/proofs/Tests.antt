-- Two numbers are in one order or the other, and a test follows its fact. Assumes nothing.
use Prim.Native.Nat.{ℕ, ◌≤◌, ◌<◌}
use mathlib.Core.Path.{◌≡◌, refl, sym, ◌∙◌}
use mathlib.Core.Bool.{Bool, true, false}
use mathlib.Core.Logic.{◌⊎◌, inl, inr, ⊎_elim}
use lib.Dec.{leb}
use borrow.Author.Tests.{leb-true, leb-false, le-leb, lt-leb}

pub le_or_lt : (a b : ℕ) → (a ≤ b) ⊎ (b < a)
le_or_lt a b = by_test (leb a b) (leb-true a b) (leb-false a b)
  where
    by_test : (t : Bool) → (t ≡ true → a ≤ b) → (t ≡ false → b < a) → (a ≤ b) ⊎ (b < a)
    by_test true f g = inl (f refl)
    by_test false f g = inr (g refl)

-- `ltb a b` is `leb (suc a) b`
pub same_test : (a b c d : ℕ) → (a ≤ b → c ≤ d) → (b < a → d < c) → leb a b ≡ leb c d
same_test a b c d f g = ⊎_elim
    (λ (p : a ≤ b). le-leb a b p ∙ sym (le-leb c d (f p)))
    (λ (q : b < a). lt-leb a b q ∙ sym (lt-leb c d (g q)))
    (le_or_lt a b)
