-- Ranges of floats, and lists of finite ones. Definitions only.
use Rattle.std.specs.Prelude.{ℕ, zero, suc, Bool, true, ◌&&◌, List, length, get_or, Float}
use Rattle.std.specs.Float.{nan}
use Rattle.std.specs.Float.Ieee.{lt, le}
use Rattle.std.specs.Float.Ieee.Scale.{finite}

-- low ≤ x ≤ high: document 01's "a..b", both ends included
unfoldable pub between : Float → Float → Float → Bool
between x low high = le low x && le x high

-- low ≤ x < high
unfoldable pub from_to : Float → Float → Float → Bool
from_to x low high = le low x && lt x high

-- the first n are finite
unfoldable pub finite_to : List Float → ℕ → Bool
finite_to l zero = true
finite_to l (suc n) = finite_to l n && finite (get_or l n nan)

unfoldable pub all_finite : List Float → Bool
all_finite l = finite_to l (length l)
