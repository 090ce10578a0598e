-- The first of some numbers that passes a test. Definitions only.
use Rattle.std.specs.Prelude.{◌≡◌, ℕ, zero, suc, ◌+◌, ◌<◌, ◌≤◌, ◌⊎◌, Bool, true, false, cond}

-- the first number, or where that is 0 the second
unfoldable pub or_else : ℕ → ℕ → ℕ
or_else zero b = b
or_else (suc a) b = suc a

-- the least of 1, 2, .., n that passes the test; 0 where none does
unfoldable pub least : (ℕ → Bool) → ℕ → ℕ
least test zero = zero
least test (suc n) = or_else (least test n) (cond (test (suc n)) (suc n) 0)

-- what a search answers, by what the calls of its test return: r is the first of 1, 2, .., n where it may return true, 0 where none is
pub record FirstOf (Returns : ℕ → Bool → Type 0) (n r : ℕ) : Type 0 where
  pub within : r ≤ n
  pub before : (i : ℕ) → i < n → (r ≡ 0) ⊎ (i + 1 < r) → Returns (i + 1) false
  pub here : 0 < r → Returns r true
