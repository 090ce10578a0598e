-- What an answer says, in a sentence. Definitions only.
use Rattle.std.specs.Prelude.{◌≡◌, ℕ, ◌≤◌, ◌<◌, true, false}
use Rattle.slots.specs.Told.{Breaks}

-- slot s breaks limit n, no lower slot does, and no slot breaks a lower limit
pub record Lowest (breaks : Breaks) (n s : ℕ) : Type 0 where
  pub limit : (2 ≤ n) × (n ≤ 7)
  pub slot : s < 20
  pub breaks_it : breaks n s ≡ true
  pub no_lower_slot : (t : ℕ) → t < s → breaks n t ≡ false
  pub no_lower_limit : (m t : ℕ) → 2 ≤ m → m < n → t < 20 → breaks m t ≡ false

-- no slot breaks any of the limits
abbrev pub Unbroken : Breaks → Type 0
Unbroken breaks = (n s : ℕ) → 2 ≤ n → n ≤ 7 → s < 20 → breaks n s ≡ false
