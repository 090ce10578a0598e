-- What `trigfun`'s tables hold: the sines and cosines of the whole degrees, but for the three doctored entries.
use Prim.Native.Nat.{ℕ, zero, suc, ◌≤◌, ◌<◌}
use mathlib.Core.Path.{◌≡◌, sym, ◌∙◌}
use mathlib.Core.Logic.{⊎_elim}
use mathlib.Core.List.{List}
use native.Mathlib.Nat.{eq-or-lt_of_le}
use native.Mathlib.Omega.{arith}
use lib.ListN.{length, get_or, set, length-set}
use lib.Seq.{get_or-set_same, get_or-set_other, ext_get_or}
use lib.Ieee.{Float, nan}
use Rattle.floats.proofs.Filled.{filled-length, filled_at}
use Rattle.model.specs.declared.record.Trig.{Trig}
use Rattle.trig.specs.Trig.{DegreeTables, trig_tables, sines_to, cosines_to}

-- a table with new ends: x at 90, then y at 0
module _ (l : List Float) (x y : Float) where
  between_ends : (z : ℕ) → 0 < z → z < 90 → get_or (set (set l 90 x) 0 y) z nan ≡ get_or l z nan
  between_ends z h k = get_or-set_other (set l 90 x) 0 z y nan (λ e. omega arith) ∙ get_or-set_other l 90 z x nan (λ e. omega arith)

  last_end : 90 < length l → get_or (set (set l 90 x) 0 y) 90 nan ≡ x
  last_end h = get_or-set_other (set l 90 x) 0 90 y nan (λ e. omega arith) ∙ get_or-set_same l 90 x nan h

  first_end : 90 < length l → get_or (set (set l 90 x) 0 y) 0 nan ≡ y
  first_end h = get_or-set_same (set l 90 x) 0 y nan (rw length-set (omega arith))

pub degree_tables : DegreeTables trig_tables
unfolding trig_tables
degree_tables =
    let a : 90 < length (sines_to 91) = rw filled-length (omega arith) in
    let b : 90 < length (cosines_to 91) = rw filled-length (omega arith) in
    record {
      sine_of = λ z h. get_or-set_other (sines_to 91) 90 z _ nan (λ e. omega arith) ∙ filled_at _ 91 91 z (omega arith) (omega arith);
      sine_90 = get_or-set_same (sines_to 91) 90 _ nan a;
      cosine_of = λ z l h. between_ends (cosines_to 91) _ _ z l h ∙ filled_at _ 91 91 z (omega arith) (omega arith);
      cosine_90 = last_end (cosines_to 91) _ _ b;
      cosine_0 = first_end (cosines_to 91) _ _ b;
    }

-- and no other tables hold this
module _ (t : Trig) (d : DegreeTables t) where
  same_sine : (z : ℕ) → z < 91 → get_or t.a z nan ≡ get_or trig_tables.a z nan
  same_sine z h =
      let most : z ≤ 90 = omega arith in
      ⊎_elim (λ (e : z ≡ 90). rw e (d.sine_90 ∙ sym degree_tables.sine_90)) (λ l. d.sine_of z l ∙ sym (degree_tables.sine_of z l)) (eq-or-lt_of_le most)

  same_cosine : (z : ℕ) → z < 91 → get_or t.b z nan ≡ get_or trig_tables.b z nan
  same_cosine zero h = d.cosine_0 ∙ sym degree_tables.cosine_0
  same_cosine (suc z) h =
      let most : suc z ≤ 90 = omega arith in
      let some : 0 < suc z = omega arith in
      ⊎_elim (λ (e : suc z ≡ 90). rw e (d.cosine_90 ∙ sym degree_tables.cosine_90)) (λ l. d.cosine_of (suc z) some l ∙ sym (degree_tables.cosine_of (suc z) some l)) (eq-or-lt_of_le most)

  pub degree_tables_only : length t.a ≡ 91 → length t.b ≡ 91 → t ≡ trig_tables
  unfolding trig_tables
  degree_tables_only la lb =
      let sines = ext_get_or nan t.a trig_tables.a (la ∙ sym (length-set (sines_to 91) 90 _ ∙ filled-length _ 91 91)) λ z l. same_sine z (omega arith) in
      let cosines = ext_get_or nan t.b trig_tables.b (lb ∙ sym (length-set (set (cosines_to 91) 90 _) 0 _ ∙ length-set (cosines_to 91) 90 _ ∙ filled-length _ 91 91)) λ z l. same_cosine z (omega arith) in
      rw (sines, cosines)
