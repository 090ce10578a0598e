-- Issue 27: "whole coordinates by the whole-number sine". A point of a plate, north up, azimuths clockwise: x = centre + r sin v, y = centre - r cos v, each rounded to the nearest whole number. Definitions only.
use Rattle.std.specs.Prelude.{ℕ, ◌+◌, ◌-◌, ◌*◌, ◌/◌, ◌%◌, ◌^◌, Bool, cond, ltb}
use Rattle.sine.specs.Sine.{turn, sine_units}
use Rattle.compass.specs.declared.Point.{Point}

-- x and y of the plate's centre
abbrev pub centre : ℕ
centre = 4000

-- d degrees in document 01's units of 2^-30: a turn, 360 degrees, is `turn` units of 2^-40
unfoldable pub units_of : ℕ → ℕ
units_of d = turn * d / 360 / 2 ^ 10

-- the degrees from 0 to 90 whose sine has the size of that of v degrees
unfoldable pub folded_of : ℕ → ℕ
folded_of v = cond (ltb 90 (v % 180)) (180 - v % 180) (v % 180)

-- that size, in units: document 01's S
unfoldable pub sine_size : ℕ → ℕ
sine_size v = sine_units (units_of (folded_of v))

-- r times that size, rounded to the nearest whole number
unfoldable pub part_of : ℕ → ℕ → ℕ
part_of v r = (r * sine_size v + 2 ^ 29) / 2 ^ 30

-- the sine isn't below 0
unfoldable pub rises_at : ℕ → Bool
rises_at v = ltb (v % 360) 180

-- centre + r sin v
unfoldable pub x_of : ℕ → ℕ → ℕ
x_of v r = cond (rises_at v) (centre + part_of v r) (centre - part_of v r)

-- centre - r cos v, the cosine of v being the sine of v + 90
unfoldable pub y_of : ℕ → ℕ → ℕ
y_of v r = cond (rises_at (v + 90)) (centre - part_of (v + 90) r) (centre + part_of (v + 90) r)

unfoldable pub point_of : ℕ → ℕ → Point
point_of v r = record { x = x_of v r; y = y_of v r }
