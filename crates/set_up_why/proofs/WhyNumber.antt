-- `why` tells set-up's own number, that of the first refusal that is about a slot and 0 where only the table's size or the search is left; and the slot that it tells is the lowest that breaks that limit.
use Prim.Native.Nat.{ℕ, zero, suc, ◌≤◌}
use mathlib.Core.Path.{◌≡◌, refl, ◌∙◌}
use mathlib.Core.Bool.{Bool, true, false, cond, not, ◌&&◌, ◌||◌, false≢true}
use mathlib.Core.List.{List}
use native.Mathlib.Omega.{arith}
use borrow.Author.Tests.{leb-true, le-ltb}
use lib.ListN.{length}
use lib.Dec.{leb}
use lib.Ieee.{Float, of_bits, neg, le}
use Rattle.floats.proofs.Tests.{both}
use Rattle.floats.specs.Ranges.{between, all_finite}
use Rattle.floats.specs.Ops.{+0}
use Rattle.floats.specs.Literals.{ninety}
use Rattle.model.specs.Limits.{slot, in_band}
use Rattle.model.specs.Counts.{count_ok}
use Rattle.model.specs.Types.{jant_of, type_ok, array_type, log_periodic, crossed_type}
use Rattle.model.specs.Table.{table_size}
use Rattle.std.proofs.Common.{Some, None}
use Rattle.slots.specs.Told.{number_of}
use Rattle.slots.specs.Meaning.{Lowest, Unbroken}
use Rattle.slots.proofs.Lowest.{told-lowest, told-nothing}
use Rattle.slots.proofs.Numbers.{some, told-number, some-not-finite, one-slot, two-slots}
use Rattle.search.specs.Literals.{full_circle}
use Rattle.parameters.specs.Limits.{design_ok, band_ok, slots_ok, start_of, start_ok, slew_ok, aim_ok, refusal_of}
use Rattle.set_up_why.specs.Why.{mhz_slot, elements_slot, dipoles_slot, slew_slot, elevation_slot, azimuth_slot, elements_ok, count_broken, aim_broken, broken, breaks, why_of}

-- what holds for each of the nine types holds for every type
nine : (P : ℕ → Type 0) → P 1 → P 2 → P 3 → P 4 → P 5 → P 6 → P 7 → P 8 → P 9 → (iant : ℕ) → type_ok iant ≡ true → P iant
unfolding type_ok
nine P p1 p2 p3 p4 p5 p6 p7 p8 p9 zero h = absurd (false≢true h)
nine P p1 p2 p3 p4 p5 p6 p7 p8 p9 (suc zero) h = p1
nine P p1 p2 p3 p4 p5 p6 p7 p8 p9 (suc (suc zero)) h = p2
nine P p1 p2 p3 p4 p5 p6 p7 p8 p9 (suc (suc (suc zero))) h = p3
nine P p1 p2 p3 p4 p5 p6 p7 p8 p9 (suc (suc (suc (suc zero)))) h = p4
nine P p1 p2 p3 p4 p5 p6 p7 p8 p9 (suc (suc (suc (suc (suc zero))))) h = p5
nine P p1 p2 p3 p4 p5 p6 p7 p8 p9 (suc (suc (suc (suc (suc (suc zero)))))) h = p6
nine P p1 p2 p3 p4 p5 p6 p7 p8 p9 (suc (suc (suc (suc (suc (suc (suc zero))))))) h = p7
nine P p1 p2 p3 p4 p5 p6 p7 p8 p9 (suc (suc (suc (suc (suc (suc (suc (suc zero)))))))) h = p8
nine P p1 p2 p3 p4 p5 p6 p7 p8 p9 (suc (suc (suc (suc (suc (suc (suc (suc (suc zero))))))))) h = p9
nine P p1 p2 p3 p4 p5 p6 p7 p8 p9 (suc (suc (suc (suc (suc (suc (suc (suc (suc (suc n)))))))))) h =
    absurd (omega (arith, leb-true (suc (suc (suc (suc (suc (suc (suc (suc (suc (suc n)))))))))) 9 (both (leb 1 (suc (suc (suc (suc (suc (suc (suc (suc (suc (suc n))))))))))) (leb (suc (suc (suc (suc (suc (suc (suc (suc (suc (suc n)))))))))) 9) h).1))

module _ (p : List Float) where
  -- whether some slot of an antenna of this type breaks limit n
  abbrev some_of : ℕ → ℕ → Bool
  some_of n iant = some (λ (s : ℕ). broken iant n s (slot p s)) 20 0

  value : length p ≡ 20 → (iant : ℕ) → some_of 2 iant ≡ not (all_finite p)
  unfolding broken all_finite
  value h iant = rw h (some-not-finite p 20)

  type : (iant : ℕ) → some_of 3 iant ≡ not (type_ok iant)
  unfolding some broken
  type iant = one-slot (type_ok iant)

  mode : (iant : ℕ) → some_of 4 iant ≡ false
  unfolding some broken
  mode iant = refl

  band : (iant : ℕ) → type_ok iant ≡ true → some_of 5 iant ≡ not (band_ok iant p)
  unfolding some broken mhz_slot array_type crossed_type band_ok design_ok
  band = nine (λ (iant : ℕ). some_of 5 iant ≡ not (band_ok iant p)) (with 7) (with 7) (with 7) (with 7) operating operating operating (with 5) (with 5)
    where
      operating : cond (not (in_band (slot p 4))) true false ≡ not (in_band (slot p 4) && true)
      operating = two-slots (in_band (slot p 4)) true

      with : (s : ℕ) → cond (not (in_band (slot p 4))) true (cond (not (in_band (slot p s))) true false) ≡ not (in_band (slot p 4) && in_band (slot p s))
      with s = two-slots (in_band (slot p 4)) (in_band (slot p s))

  count : (iant : ℕ) → type_ok iant ≡ true → some_of 6 iant ≡ not (slots_ok iant p)
  unfolding some broken count_broken elements_slot dipoles_slot elements_ok array_type log_periodic slots_ok
  count = nine (λ (iant : ℕ). some_of 6 iant ≡ not (slots_ok iant p)) dipoles dipoles dipoles dipoles elements elements refl refl refl
    where
      only : (a : Bool) → cond (not a || false) true false ≡ not a
      only true = refl
      only false = refl

      elements : cond (not (elements_ok (slot p 5)) || false) true false ≡ not (elements_ok (slot p 5))
      elements = only (elements_ok (slot p 5))

      dipoles : cond (not (count_ok (slot p 5))) true (cond (not (count_ok (slot p 6))) true false) ≡ not (count_ok (slot p 5) && count_ok (slot p 6))
      dipoles = two-slots (count_ok (slot p 5)) (count_ok (slot p 6))

  abbrev elevation : ℕ → Bool
  elevation s = between (slot p s) +0 ninety

  abbrev azimuth : ℕ → Bool
  azimuth s = between (slot p s) +0 full_circle

  -- types 5 to 7 start at 0 and 0
  at_zero : (between +0 +0 ninety ≡ true) × (between +0 +0 full_circle ≡ true)
  unfolding between le of_bits
  at_zero = (refl, refl)

  aim : (iant : ℕ) → type_ok iant ≡ true → some_of 7 iant ≡ not (aim_ok iant p)
  unfolding some broken aim_broken slew_slot elevation_slot azimuth_slot array_type crossed_type aim_ok start_ok start_of slew_ok
  aim = nine (λ (iant : ℕ). some_of 7 iant ≡ not (aim_ok iant p)) (array 13 14) (array 11 12) (array 11 12) (array 10 11) still still still crossed crossed
    where
      three : (slew u v : Bool) → cond (not slew || false || false) true (cond (not u || false) true (cond (not v) true false)) ≡ not ((u && v) && slew)
      three true true true = refl
      three true true false = refl
      three true false v = refl
      three false true true = refl
      three false true false = refl
      three false false v = refl

      array : (s t : ℕ) → cond (not (between (slot p 9) (neg ninety) ninety) || false || false) true (cond (not (elevation s) || false) true (cond (not (azimuth t)) true false)) ≡ not ((elevation s && azimuth t) && between (slot p 9) (neg ninety) ninety)
      array s t = three (between (slot p 9) (neg ninety) ninety) (elevation s) (azimuth t)

      crossed : cond (not (elevation 10) || false) true (cond (not (azimuth 11)) true false) ≡ not ((elevation 10 && azimuth 11) && true)
      crossed = three true (elevation 10) (azimuth 11)

      still : false ≡ not ((between +0 +0 ninety && between +0 +0 full_circle) && true)
      still = simp (at_zero.0, at_zero.1)

  -- the table lent suffices
  pub why_number : length p ≡ 20 → (n : ℕ) → table_size ≤ n → number_of (why_of p) ≡ refusal_of (jant_of (slot p 1)) p n
  unfolding why_of refusal_of breaks
  why_number twenty n h = told-number (breaks p) ∙ (rw (le-ltb n table_size h) (go (type_ok iant) refl))
    where
      iant : ℕ
      iant = jant_of (slot p 1)

      go : (b : Bool) → type_ok iant ≡ b
          → ◌≡◌ {A = ℕ} (cond (some_of 2 iant) 2 (cond (some_of 3 iant) 3 (cond (some_of 4 iant) 4 (cond (some_of 5 iant) 5 (cond (some_of 6 iant) 6 (cond (some_of 7 iant) 7 0))))))
          (cond (not (all_finite p)) 2 (cond (not (type_ok iant)) 3 (cond (not (band_ok iant p)) 5 (cond (not (slots_ok iant p)) 6 (cond (not (aim_ok iant p)) 7 0)))))
      go true t = rw (value twenty iant, type iant, mode iant, band iant t, count iant t, aim iant t)
      go false t = rw (value twenty iant, type iant, t)

  pub why_lowest : {n s : ℕ} → why_of p ≡ Some (n, s) → Lowest (breaks p) n s
  unfolding why_of
  why_lowest = told-lowest (breaks p)

  pub why_nothing : why_of p ≡ None → Unbroken (breaks p)
  unfolding why_of
  why_nothing = told-nothing (breaks p)
