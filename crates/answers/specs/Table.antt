-- Document 01, "Answers": a table of refusals, and "lowest number first". Definitions only.
use Rattle.std.specs.Prelude.{ℕ, ◌<◌, ◌≡◌, ◌⊎◌, Bool, true, cond, ◌&&◌, List, [], ◌∷◌, ltb}
use Rattle.answers.specs.Outcome.{Outcome, refused, accepted}

-- a line of the table: a number, and whether its condition holds
abbrev pub Line : Type 0
Line = ℕ × Bool

infix 15 ◌when◌
abbrev pub ◌when◌ : ℕ → Bool → Line
◌when◌ number condition = (number, condition)

-- the condition of the number n holds
unfoldable pub Holds : List Line → ℕ → Type 0
Holds [] n = ⊥
Holds (line ∷ rest) n = ((line.0 ≡ n) × (line.1 ≡ true)) ⊎ Holds rest n

-- n is the lowest number whose condition holds
pub record Lowest (table : List Line) (n : ℕ) : Type 0 where
  pub holds : Holds table n
  pub no_lower : (k : ℕ) → k < n → Holds table k → ⊥

-- a call refuses by its table: under n just when n is the lowest number whose condition holds, and it accepts just when none does
pub record Refuses {A : Type 0} (outcome : Outcome A) (table : List Line) : Type 0 where
  pub refused_when : (n : ℕ) → Lowest table n → outcome ≡ refused n
  pub refused-only : (n : ℕ) → outcome ≡ refused n → Lowest table n
  pub accepted_when : ((n : ℕ) → Holds table n → ⊥) → (x : A) × (outcome ≡ accepted x)
  pub accepted-only : (x : A) → outcome ≡ accepted x → (n : ℕ) → Holds table n → ⊥

-- ---- the lines tried one after the other, which comes to the same where their numbers rise

-- the number of the first line whose condition holds, 0 where none does
unfoldable pub first_of : List Line → ℕ
first_of [] = 0
first_of (line ∷ rest) = cond line.1 line.0 (first_of rest)

-- the values x, or the refusal under that number
unfoldable pub answered_by : {A : Type 0} → List Line → A → Outcome A
answered_by table x = cond (ltb 0 (first_of table)) (refused (first_of table)) (accepted x)

-- the numbers rise, from above low on
unfoldable pub rising : ℕ → List Line → Bool
rising low [] = true
rising low (line ∷ rest) = ltb low line.0 && rising line.0 rest
