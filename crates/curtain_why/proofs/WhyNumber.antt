-- `why` tells the station's own number, 0 where it has none; and the slot that it tells is the lowest that breaks that limit.
use Prim.Native.Nat.{ℕ}
use mathlib.Core.Path.{◌≡◌, refl, ◌∙◌}
use mathlib.Core.Bool.{Bool, true, false, not, ◌&&◌}
use mathlib.Core.List.{List}
use lib.ListN.{length}
use lib.Ieee.{Float, neg}
use lib.Ieee.Scale.{finite}
use Rattle.floats.specs.Literals.{ninety}
use Rattle.floats.specs.Ranges.{between, all_finite}
use Rattle.model.specs.Limits.{slot, in_band}
use Rattle.std.proofs.Common.{Some, None}
use Rattle.slots.specs.Told.{number_of}
use Rattle.slots.specs.Meaning.{Lowest, Unbroken}
use Rattle.slots.proofs.Lowest.{told-lowest, told-nothing}
use Rattle.slots.proofs.Numbers.{some, some_breaks, told-number, some-not-finite, one-slot, two-slots}
use Rattle.curtain.specs.Answers.{station_finite, band_ok, aim_ok, station_refusal_of}
use Rattle.curtain_why.specs.Why.{broken, breaks, why_of}

module _ (p : List Float) where
  value : length p ≡ 20 → some_breaks (breaks p) 2 ≡ not (all_finite p)
  unfolding breaks broken all_finite
  value h = rw h (some-not-finite p 20)

  none : (some_breaks (breaks p) 3 ≡ false) × (some_breaks (breaks p) 4 ≡ false) × (some_breaks (breaks p) 6 ≡ false)
  unfolding some breaks broken
  none = (refl, refl, refl)

  band : some_breaks (breaks p) 5 ≡ not (band_ok p)
  unfolding some breaks broken band_ok
  band = two-slots (in_band (slot p 4)) (in_band (slot p 7))

  aim : some_breaks (breaks p) 7 ≡ not (aim_ok p)
  unfolding some breaks broken aim_ok
  aim = one-slot (between (slot p 14) (neg ninety) ninety)

  -- with any factor that is finite
  pub why_number : length p ≡ 20 → (gnorm : Float) → finite gnorm ≡ true → number_of (why_of p) ≡ station_refusal_of p gnorm
  unfolding why_of station_refusal_of station_finite
  why_number twenty gnorm h = told-number (breaks p) ∙ rw (value twenty, none.0, none.1, band, none.2, aim, h, and-true (all_finite p))
    where
      and-true : (a : Bool) → (a && true) ≡ a
      and-true true = refl
      and-true false = refl

  pub why_lowest : {n s : ℕ} → why_of p ≡ Some (n, s) → Lowest (breaks p) n s
  unfolding why_of
  why_lowest = told-lowest (breaks p)

  pub why_nothing : why_of p ≡ None → Unbroken (breaks p)
  unfolding why_of
  why_nothing = told-nothing (breaks p)
