-- Not of document 02: hundredths as the code holds them, 100,000 more, so that those of a number in span are none below 0. Definitions only.
use Rattle.std.specs.Prelude.{ℕ, ℤ, pos, nat_abs, ◌+ℤ◌, ◌-ℤ◌, Float}
use Rattle.hundredths.specs.Hundredths.{hundredths_of}

-- the hundredths of x, raised
unfoldable pub raised_of : Float → ℕ
raised_of x = nat_abs (hundredths_of x +ℤ pos 100000)

-- the hundredths that r stands for: `lowered (raised_of x)` is `hundredths_of x` in span
unfoldable pub lowered : ℕ → ℤ
lowered r = pos r -ℤ pos 100000
