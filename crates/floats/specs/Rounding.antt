-- Fortran's roundings, by Rust's saturating cast to `i32`. Definitions only.
use Rattle.std.specs.Prelude.{ℕ, suc, min, cond, ℤ, pos, negsuc, Float}
use Rattle.std.specs.Float.Ieee.{le, to_signed}
use Rattle.floats.specs.Ops.{◌⊕◌, ◌⊖◌, +0}
use Rattle.floats.specs.Literals.{half}

-- `nint`: a half is added away from 0, and what is after the point cut off
unfoldable pub nint_of : Float → ℤ
nint_of v = cond (le +0 v) (to_signed 31 (v ⊕ half)) (to_signed 31 (v ⊖ half))

-- a whole number brought into 0 .. 90
abbrev pub clamp90 : ℤ → ℕ
clamp90 (pos n) = min n 90
clamp90 (negsuc n) = 0

-- `ifix`
unfoldable pub ifix_of : Float → ℕ
ifix_of v = clamp90 (to_signed 31 v)

-- 0 for a number below 0
abbrev pub natural : ℤ → ℕ
natural (pos n) = n
natural (negsuc n) = 0

-- how many numbers there are in 0..=k
unfoldable pub turns_of : ℤ → ℕ
turns_of (pos n) = suc n
turns_of (negsuc n) = 0
