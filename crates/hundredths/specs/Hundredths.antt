-- Document 02, card 14: "A number's exact value becomes whole hundredths, halves away from zero". The size of a finite x is exactly num x / den x. Definitions only.
use Rattle.std.specs.Prelude.{ℕ, ◌+◌, ◌*◌, ◌/◌, Bool, ◌&&◌, cond, leb, ℤ, pos, neg_ℤ, Float}
use Rattle.std.specs.Float.Ieee.Positive.{num, den}
use Rattle.std.specs.Float.Ieee.Scale.{finite}
use Rattle.numeric.specs.Float.{sign_bit}

-- card 14 refuses "a number over 1,000 in size"; a NaN and an infinity are out of span too
unfoldable pub in_span : Float → Bool
in_span x = finite x && leb (num x) (1000 * den x)

-- the hundredths of |x|: 100 |x| and a half, rounded down, so that halves go up
unfoldable pub size_of : Float → ℕ
size_of x = (200 * num x + den x) / (2 * den x)

-- n, or -n
abbrev pub signed : Bool → ℕ → ℤ
signed negative n = cond negative (neg_ℤ (pos n)) (pos n)

-- x in whole hundredths: those of its size, with its sign
unfoldable pub hundredths_of : Float → ℤ
hundredths_of x = signed (sign_bit x) (size_of x)
