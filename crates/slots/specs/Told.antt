-- The lowest number that a slot breaks, and the lowest slot that breaks it, by the test "slot s breaks limit n". Definitions only.
use Rattle.std.specs.Prelude.{ℕ, zero, suc, Bool, cond, Option, Some, None}
use Rattle.answers.specs.Outcome.{number}
use Rattle.slots.specs.declared.Broken.{Broken}

-- what is told: a number and a slot that breaks it, or nothing
abbrev pub Why : Type 0
Why = Option (ℕ × ℕ)

-- a refusal by its number
abbrev pub told_of : Option Broken → Why
told_of (Some b) = Some (number b.refusal, b.slot)
told_of None = None

-- "slot s breaks limit n", n first
abbrev pub Breaks : Type 0
Breaks = ℕ → ℕ → Bool

-- the lowest of the k slots from s on that breaks limit n
unfoldable pub lowest : Breaks → ℕ → ℕ → ℕ → Why
lowest breaks n zero s = None
lowest breaks n (suc k) s = cond (breaks n s) (Some (n, s)) (lowest breaks n k (suc s))

-- the first, or where it is nothing the second
unfoldable pub or_else : Why → Why → Why
or_else None rest = rest
or_else (Some found) rest = Some found

-- of the k numbers from n on, each with its lowest slot of twenty: the first that is broken
unfoldable pub numbers_from : Breaks → ℕ → ℕ → Why
numbers_from breaks zero n = None
numbers_from breaks (suc k) n = or_else (lowest breaks n 20 0) (numbers_from breaks k (suc n))

-- of the numbers 2 to 7: the refusals that are about a slot
unfoldable pub told : Breaks → Why
told breaks = numbers_from breaks 6 2

-- the refusal's number, 0 for nothing
unfoldable pub number_of : Why → ℕ
number_of None = 0
number_of (Some found) = found.0
