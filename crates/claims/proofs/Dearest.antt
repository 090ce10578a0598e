-- Card 12 holds.
use mathlib.Core.Path.{◌≡◌, refl}
use mathlib.Core.Logic.{◌⊎◌, inl, inr}
use mathlib.Core.Bool.{Bool, true, false, ◌&&◌, ◌||◌}
use mathlib.Core.List.{List}
use Prim.Native.Nat.{ℕ, zero, suc}
use native.Mathlib.Omega.{arith}
use borrow.Author.Tests.{leb-true, le-leb, eq-eqb, ne_eqb, lt-ltb, le-ltb}
use lib.Dec.{leb}
use lib.IntN.{ℤ, pos, negsuc}
use lib.Ieee.{Float, to_signed}
use Rattle.model.specs.Limits.{slot}
use Rattle.model.specs.Types.{jant_of, array_type}
use Rattle.search.specs.Search.{last_searched}
use Rattle.antenna.specs.SetUp.{slewed_of}
use Rattle.parameters.specs.Whole.{non_zero}
use Rattle.antenna_laws.proofs.ReadingCount.{readings-at-most, searched-readings, unsearched_readings}
use Rattle.claims.specs.Dearest.{Slewed, Tropical, Dearest}
use Rattle.dear_stations.proofs.DearestStations.{dear-takes, silent_takes}

non_zero_lem : (z : ℤ) → (z ≡ pos 0 → ⊥) → non_zero z ≡ true
unfolding non_zero
non_zero_lem (pos zero) h = absurd (h refl)
non_zero_lem (pos (suc n)) h = rw (le-ltb (suc n) 0 (omega arith), lt-ltb 0 (suc n) (omega arith))
non_zero_lem (negsuc n) h = refl

not-zero : (z : ℤ) → non_zero z ≡ true → z ≡ pos 0 → ⊥
unfolding non_zero
not-zero z h e = let f : ◌≡◌ {A = Bool} false true = rw e at h in let n : ◌≡◌ {A = ℕ} 0 1 = cc in omega arith

or_true : (b : Bool) → (b || true) ≡ true
or_true true = refl
or_true false = refl

module _ (p : List Float) where
  abbrev last_pass : Bool
  last_pass = last_searched (jant_of (slot p 1)) (slewed_of (jant_of (slot p 1)) p)

  last_pass_lem : Slewed p ⊎ Tropical p → last_pass ≡ true
  unfolding last_searched slewed_of array_type
  last_pass_lem (inl s) = rw (le-leb (jant_of (slot p 1)) 4 s.0, non_zero_lem (to_signed 31 (slot p 9)) s.1)
  last_pass_lem (inr t) = rw (eq-eqb (jant_of (slot p 1)) 4 t) (or_true (slewed_of (jant_of (slot p 1)) p))

  pub no_last_pass : (Slewed p → ⊥) → (Tropical p → ⊥) → last_pass ≡ false
  unfolding last_searched slewed_of array_type
  no_last_pass s t = rw (ne_eqb (jant_of (slot p 1)) 4 t) (go (leb (jant_of (slot p 1)) 4) (non_zero (to_signed 31 (slot p 9))) refl refl)
    where
      go : (x y : Bool) → leb (jant_of (slot p 1)) 4 ≡ x → non_zero (to_signed 31 (slot p 9)) ≡ y → ((x && y) || false) ≡ false
      go true true e f = absurd (s (leb-true (jant_of (slot p 1)) 4 e, not-zero (to_signed 31 (slot p 9)) f))
      go true false e f = refl
      go false y e f = refl

pub dearest : Dearest
dearest =
    record {
      at_most = λ p size a n h. readings-at-most p size h;
      parts = λ p size a n h s. searched-readings p size h (last_pass_lem p s);
      unslewed = λ p size a n h s t. unsearched_readings p size h (no_last_pass p s t);
      dear = dear-takes;
      less_dear = silent_takes;
    }
