-- Values and answers one after the other. Definitions only.
use Rattle.std.specs.Prelude.{ℕ, zero, suc, List, [], ◌∷◌, ◌++◌}
use Rattle.answers.specs.Outcome.{Outcome, accepted}
use Rattle.request.specs.Request.{and_then}

-- f at 0 to n - 1
unfoldable pub up_to : {A : Type 0} → (ℕ → A) → ℕ → List A
up_to f zero = []
up_to f (suc n) = up_to f n ++ (f n ∷ [])

-- what f answers at 0 to n - 1, or the first refusal among them
unfoldable pub in_order : {A : Type 0} → (ℕ → Outcome A) → ℕ → Outcome (List A)
in_order f zero = accepted []
in_order {A} f (suc n) = and_then (in_order f n) λ (xs : List A). and_then (f n) λ (x : A). accepted (xs ++ (x ∷ []))
