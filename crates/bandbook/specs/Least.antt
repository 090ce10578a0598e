-- The first of some numbers in a row that passes a test. Definitions only.
use Rattle.std.specs.Prelude.{Option, Some, None, ℕ, zero, suc, Bool, cond}

-- the least of the n numbers from k on at which the test is true
unfoldable pub least : (ℕ → Bool) → ℕ → ℕ → Option ℕ
least test zero k = None
least test (suc n) k = cond (test k) (Some k) (least test n (suc k))
