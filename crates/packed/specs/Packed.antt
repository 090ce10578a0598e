-- Answers that are one number of 64 bits: kind × 2^32 plus a value. Definitions only.
use Rattle.std.specs.Prelude.{ℕ, ◌+◌, ◌*◌, ◌^◌}
use Rattle.answers.specs.Outcome.{Outcome, refused, accepted}

-- the value under a kind; kind 0 is the value alone
abbrev pub kinded : ℕ → ℕ → ℕ
kinded kind value = kind * 2 ^ 32 + value

-- kind 3: refused under a number
abbrev pub refused_as : ℕ → ℕ
refused_as n = kinded 3 n

-- a count, or the refusal's number under kind 3
unfoldable pub counted : Outcome ℕ → ℕ
counted (accepted n) = n
counted (refused n) = refused_as n

-- kind 4: refused under a number with a place, number × 65,536 + place
abbrev pub refused_at : ℕ → ℕ → ℕ
refused_at n place = kinded 4 (n * 65536 + place)
