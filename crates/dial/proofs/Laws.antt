-- What is known of the dial: the peak, the top ring and the distances. Assumes nothing.
use Prim.Native.Nat.{ℕ, zero, suc, ◌+◌, ◌-◌, ◌*◌, ◌/◌, ◌≤◌, ◌<◌}
use mathlib.Core.Path.{◌≡◌, refl}
use mathlib.Core.Bool.{Bool, true, false, cond}
use mathlib.Core.List.{List}
use mathlib.Core.Logic.{⊎_elim}
use native.Mathlib.Nat.{div-le_of_le-mul, mul-le-mul_right, eq-or-lt_of_le, le_refl}
use native.Mathlib.Omega.{arith}
use borrow.Author.Tests.{ltb-true, ltb-false}
use lib.Dec.{ltb}
use lib.ListN.{get_or}
use Rattle.dial.specs.Scale.{better_of, peak_to, peak_azimuth, peak_of, top_of}

-- a part of d is that share of 2,700 at most
pub share : (a d : ℕ) → a ≤ d → 0 < d → a * 2700 / d ≤ 2700
share a d h p = div-le_of_le-mul d (omega (arith, mul-le-mul_right 2700 h))

-- the top ring is at the peak or above it, by less than 10 dB where that is over -30 dBi
pub top_above : (peak : ℕ) → peak ≤ top_of peak
unfolding top_of
top_above peak = omega arith

pub top_near : (peak : ℕ) → 97000 < peak → top_of peak < peak + 1000
unfolding top_of
top_near peak h = omega arith

module _ (numbers : List ℕ) where
  -- one number more
  pub peak-more : (v : ℕ) → 1 ≤ v → peak_to numbers v ≡ better_of numbers (peak_to numbers (v - 1)) v
  unfolding peak_to
  peak-more v h = go (v - 1) (omega arith)
    where
      go : (n : ℕ) → v ≡ suc n → peak_to numbers v ≡ better_of numbers (peak_to numbers n) v
      go n e = rw e

  -- no number is above the peak's, and those before it are below
  record Peak (n p : ℕ) : Type 0 where
    place : p ≤ n
    greatest : (v : ℕ) → v ≤ n → get_or numbers v 0 ≤ get_or numbers p 0
    first : (v : ℕ) → v < p → get_or numbers v 0 < get_or numbers p 0

  peak_step : (n p : ℕ) → Peak n p → (b : Bool)
      → (b ≡ true → get_or numbers p 0 < get_or numbers (suc n) 0)
      → (b ≡ false → get_or numbers (suc n) 0 ≤ get_or numbers p 0)
      → Peak (suc n) (cond b (suc n) p)
  peak_step n p k true h l = record {
    place = le_refl (suc n);
    greatest = λ v i. ⊎_elim (λ (e : v ≡ suc n). rw e (le_refl _)) (λ (i : v < suc n). omega (arith, k.greatest v (omega arith), h refl)) (eq-or-lt_of_le i);
    first = λ v i. omega (arith, k.greatest v (omega arith), h refl);
  }
  peak_step n p k false h l = record {
    place = omega (arith, k.place);
    greatest = λ v i. ⊎_elim (λ (e : v ≡ suc n). rw e (l refl)) (λ (i : v < suc n). k.greatest v (omega arith)) (eq-or-lt_of_le i);
    first = k.first;
  }

  peak_is : (n : ℕ) → Peak n (peak_to numbers n)
  unfolding peak_to better_of
  peak_is zero = record {
    place = le_refl 0;
    greatest = λ v i. let e : v ≡ 0 = omega arith in rw e (le_refl _);
    first = λ v i. absurd (omega arith);
  }
  peak_is (suc n) =
      let p = peak_to numbers n in
      let b = ltb (get_or numbers p 0) (get_or numbers (suc n) 0) in
      peak_step n p (peak_is n) b (ltb-true (get_or numbers p 0) (get_or numbers (suc n) 0)) (ltb-false (get_or numbers p 0) (get_or numbers (suc n) 0))

  pub peak-greatest : (v : ℕ) → v < 360 → get_or numbers v 0 ≤ peak_of numbers
  unfolding peak_of peak_azimuth
  peak-greatest v i = (peak_is 359).greatest v (omega arith)

  pub peak-first : (v : ℕ) → v < peak_azimuth numbers → get_or numbers v 0 < peak_of numbers
  unfolding peak_of peak_azimuth
  peak-first v i = (peak_is 359).first v i

  pub peak-place : peak_azimuth numbers < 360
  unfolding peak_azimuth
  peak-place = omega (arith, (peak_is 359).place)
