-- Issue 27: "rings every 10 dB". The peak of a row, and how far from the centre a gain lies. Gains are hundredths of dBi, raised by 100,000: 10 dB are 1,000. Definitions only.
use Rattle.std.specs.Prelude.{ℕ, zero, suc, ◌+◌, ◌-◌, ◌*◌, ◌/◌, max, min, cond, List, ltb, get_or}

-- of two azimuths the one whose number is greater, and of equal ones the first
unfoldable pub better_of : List ℕ → ℕ → ℕ → ℕ
better_of numbers first second = cond (ltb (get_or numbers first 0) (get_or numbers second 0)) second first

-- the azimuth of the greatest of the numbers 0 to n
unfoldable pub peak_to : List ℕ → ℕ → ℕ
peak_to numbers zero = 0
peak_to numbers (suc n) = better_of numbers (peak_to numbers n) (suc n)

-- the peak's azimuth and number
unfoldable pub peak_azimuth : List ℕ → ℕ
peak_azimuth numbers = peak_to numbers 359

unfoldable pub peak_of : List ℕ → ℕ
peak_of numbers = get_or numbers (peak_azimuth numbers) 0

-- the top ring: the least multiple of 10 dBi that is at least the peak, and at least -20 dBi
unfoldable pub top_of : ℕ → ℕ
top_of peak = max 98000 ((peak + 999) / 1000 * 1000)

-- the bottom ring: -30 dBi, but at most 60 dB below the top
unfoldable pub bottom_of : ℕ → ℕ
bottom_of peak = max 97000 (top_of peak - 6000)

unfoldable pub span_of : ℕ → ℕ
span_of peak = top_of peak - bottom_of peak

-- a gain's distance from the centre: 400 at the bottom ring and below it, 3,100 at the top, in even steps between
unfoldable pub radius_of : ℕ → ℕ → ℕ
radius_of peak gain = 400 + min (gain - bottom_of peak) (span_of peak) * 2700 / span_of peak
