-- The sums over a row of dipoles that `gainrel`'s arms 1 to 4 make. Definitions only.
use Rattle.std.specs.Prelude.{ℕ, zero, suc, Float}
use Rattle.std.specs.Float.Ieee.{to_signed}
use Rattle.floats.specs.Ops.{◌⊕◌, ◌⊗◌, +0, count}
use Rattle.floats.specs.Rounding.{turns_of}
use Rattle.sine.specs.Sine.{sine, cosine}

-- how many il there are in `0..x as i32 + 1`
abbrev pub il_count : Float → ℕ
il_count x = turns_of (to_signed 31 x)

-- u1 and u2: the sums of the cosines and the sines of g * il, il from 0 to n - 1
unfoldable pub cosine_sum : Float → ℕ → Float
cosine_sum g zero = +0
cosine_sum g (suc il) = cosine_sum g il ⊕ cosine (g ⊗ count il)

unfoldable pub sine_sum : Float → ℕ → Float
sine_sum g zero = +0
sine_sum g (suc il) = sine_sum g il ⊕ sine (g ⊗ count il)
