-- What a picture tells of a row is the row's. Assumes nothing.
use Prim.Native.Nat.{ℕ, zero, suc, ◌%◌, ◌≤◌, ◌<◌}
use mathlib.Core.Path.{◌≡◌, refl}
use mathlib.Core.Bool.{Bool, true, false, cond}
use mathlib.Core.List.{List}
use native.Mathlib.Nat.{le_refl}
use native.Mathlib.Omega.{arith}
use lib.Dec.{ltb}
use lib.ListN.{get_or}
use Rattle.compass.specs.Compass.{point_of}
use Rattle.dial.specs.Scale.{better_of, peak_to, peak_azimuth, peak_of, radius_of}
use Rattle.dial.proofs.Laws.{peak-greatest}
use Rattle.figures.specs.Figures.{behind_of}
use Rattle.figures.proofs.Laws.{behind-greatest}
use Rattle.curve.specs.Curve.{spot_of}

-- a peak's number and azimuth, and the number that front-to-back subtracts, beside the row: the peak is the row's greatest and stands where it is told, with its dot on the curve
pub record Told (numbers : List ℕ) (azimuth peak behind : ℕ) : Type 0 where
  pub number : peak ≡ get_or numbers azimuth 0
  pub greatest : (v : ℕ) → v < 360 → get_or numbers v 0 ≤ peak
  pub dot : point_of azimuth (radius_of peak peak) ≡ spot_of numbers peak azimuth
  pub back : (v : ℕ) → 90 ≤ v → v ≤ 270 → get_or numbers v 0 ≤ behind

module _ (numbers : List ℕ) where
  peak-place : (n : ℕ) → peak_to numbers n ≤ n
  unfolding peak_to better_of
  peak-place zero = le_refl 0
  peak-place (suc n) = either (peak_to numbers n) (peak-place n) (ltb (get_or numbers (peak_to numbers n) 0) (get_or numbers (suc n) 0))
    where
      either : (p : ℕ) → p ≤ n → (b : Bool) → cond b (suc n) p ≤ suc n
      either p h true = le_refl (suc n)
      either p h false = omega arith

  -- of what `picture_of` tells
  pub told : Told numbers (peak_azimuth numbers) (peak_of numbers) (get_or numbers (behind_of numbers) 0)
  unfolding peak_of peak_azimuth spot_of
  told =
      let a = peak_to numbers 359 in
      let e : a % 360 ≡ a = omega (arith, peak-place 359) in
      record {
        number = refl;
        greatest = peak-greatest numbers;
        dot = rw e;
        back = behind-greatest numbers;
      }
