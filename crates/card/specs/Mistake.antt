-- A mistake. Definitions only.
use Rattle.std.specs.Prelude.{ℕ, Option, Some, None}
use Rattle.card.specs.declared.mistakes.Fault.{Fault}
use Rattle.card.specs.declared.mistakes.Mistake.{Mistake}

abbrev pub mistake : Fault → ℕ → ℕ → ℕ → Mistake
mistake what line field number = record { what = what; line = line; field = field; number = number }

-- what is wrong, if anything is, told of a line, a field and one of its numbers
abbrev pub told : ℕ → ℕ → ℕ → Option Fault → Option Mistake
told line field number None = None
told line field number (Some what) = Some (mistake what line field number)

-- the first of these that there is
abbrev pub or_else : Option Mistake → Option Mistake → Option Mistake
or_else (Some m) n = Some m
or_else None n = n
