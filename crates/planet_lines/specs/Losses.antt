-- Document 02, card 14: "loss is the greatest hundredths of that part less the entry's", and what a span is. Definitions only.
use Rattle.std.specs.Prelude.{ℕ, zero, suc, ◌-◌, max, Bool, cond, List, ℤ, pos, ◌-ℤ◌, ltb, length, Float}
use Rattle.std.specs.List.{list_all}
use Rattle.std.specs.Int.Signed.{le_z}
use Rattle.floats.specs.Ops.{at}
use Rattle.hundredths.specs.Hundredths.{in_span, hundredths_of}
use Rattle.hundredths.specs.Raised.{raised_of}

-- 18: every number is at most 1,000 in size
unfoldable pub all_in_span : List Float → Bool
all_in_span numbers = list_all in_span numbers

-- of two whole numbers the larger
unfoldable pub larger : ℤ → ℤ → ℤ
larger a b = cond (le_z a b) b a

-- the greatest hundredths of the number at 0 and of the n after it
unfoldable pub greatest_to : List Float → ℕ → ℤ
greatest_to numbers zero = hundredths_of (at numbers 0)
greatest_to numbers (suc n) = larger (greatest_to numbers n) (hundredths_of (at numbers (suc n)))

-- the greatest hundredths of a part
unfoldable pub greatest : List Float → ℤ
greatest numbers = greatest_to numbers (length numbers - 1)

-- 99.99, for angles below ground
abbrev pub below_ground : ℤ
below_ground = pos 9999

-- the loss at an angle of a part; the angles that it has no number for are below ground
unfoldable pub loss_at : List Float → ℕ → ℤ
loss_at numbers angle = cond (ltb angle (length numbers)) (greatest numbers -ℤ hundredths_of (at numbers angle)) below_ground

-- ---- the code's step, proved equal: the greatest of the raised hundredths

-- of the first n numbers
unfoldable pub top_to : List Float → ℕ → ℕ
top_to numbers zero = 0
top_to numbers (suc n) = max (top_to numbers n) (raised_of (at numbers n))

unfoldable pub top : List Float → ℕ
top numbers = top_to numbers (length numbers)
