-- A text cut at some of its bytes. `stop` says which. Definitions only.
use Rattle.std.specs.Prelude.{ℕ, ◌+◌, min, Bool, cond, List, [], ◌∷◌, length, drop}

-- what stands before the first of them; without one, all
unfoldable pub up_to : (ℕ → Bool) → List ℕ → List ℕ
up_to stop [] = []
up_to stop (b ∷ s) = cond (stop b) [] (b ∷ up_to stop s)

-- the index of the first of them from `at` on; without one, the end
unfoldable pub end_from : (ℕ → Bool) → List ℕ → ℕ → ℕ
end_from stop s at = min (at + length (up_to stop (drop at s))) (length s)

-- b before the first piece, of which there is always one
unfoldable pub longer : ℕ → List (List ℕ) → List (List ℕ)
longer b [] = []
longer b (p ∷ ps) = (b ∷ p) ∷ ps

-- what stands between them, also where that is nothing
unfoldable pub pieces : (ℕ → Bool) → List ℕ → List (List ℕ)
pieces stop [] = [] ∷ []
pieces stop (b ∷ s) = cond (stop b) ([] ∷ pieces stop s) (longer b (pieces stop s))
