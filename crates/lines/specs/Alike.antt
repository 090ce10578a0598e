-- Whether two texts are the same, byte by byte. Definitions only.
use Rattle.std.specs.Prelude.{ℕ, Bool, true, false, ◌&&◌, List, [], ◌∷◌, eqb}

unfoldable pub alike : List ℕ → List ℕ → Bool
alike [] [] = true
alike [] (y ∷ t) = false
alike (x ∷ s) [] = false
alike (x ∷ s) (y ∷ t) = eqb x y && alike s t
