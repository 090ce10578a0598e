-- A test of all elements that stops at none of them: a fold that keeps whether all passed so far. Assumes nothing.
use mathlib.Core.Path.{◌≡◌, refl}
use mathlib.Core.Bool.{Bool, true, false, ◌&&◌}
use mathlib.Core.List.{List, [], ◌∷◌}
use Rattle.std.specs.List.{fold, list_all}

pub all-by-fold : {A : Type 0} (test : A → Bool) (ok : Bool) (l : List A) → fold (λ b x. b && test x) ok l ≡ (ok && list_all test l)
all-by-fold test true [] = refl
all-by-fold test false [] = refl
all-by-fold test true (x ∷ l) = all-by-fold test (test x) l
all-by-fold test false (x ∷ l) = all-by-fold test false l
