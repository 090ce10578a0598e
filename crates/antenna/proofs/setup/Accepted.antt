-- What accepted parameters say of the model that is made from them, and what set-up leaves of the lent floats.
use Rattle.std.proofs.Common.{◌≡◌, ℕ, ◌≤◌, Bool, true, false, cond, not, ◌&&◌, eqb, ltb, leb, List, length, refl, arith, ltb-false, ne_eqb, le-leb, leb-true}
use borrow.Author.Tests.{not-false}
use lib.Ieee.{Float, le, of_bits}
use Rattle.model.specs.Types.{type_ok, array_type, log_periodic}
use Rattle.model.specs.Counts.{count_ok, counts_ok, elements_ok}
use Rattle.floats.specs.Ranges.{all_finite}
use Rattle.model.specs.Table.{table_size}
use Rattle.model.specs.declared.record.Constants.{Constants}
use Rattle.model.specs.declared.record.Model.{Model}
use Rattle.floats.proofs.Tests.{both, next}
use Rattle.ground.specs.Table.{table_of}
use Rattle.logperiodic.specs.Active.{Listed}
use Rattle.logperiodic.specs.declared.geometry.Boom.{Boom}
use Rattle.parameters.specs.Limits.{band_ok, nel_of, slots_ok, aim_ok, refusal_of}
use Rattle.parameters.specs.TypeConstants.{number, given, constants_with, array_own, boom_own, rhombic_own, crossed_own, own_of, constants_of}
use Rattle.answers.specs.Outcome.{refused}
use Rattle.words.specs.Laid.{laid}
use Rattle.antenna.specs.SetUp.{no_elements, accepted_of, set_up_of, kept_after, lent_after}
use Rattle.search.specs.declared.gainorm.Search.{Search}

-- the two counts of the constants
abbrev CountsIn : Constants → Type 0
CountsIn k = (count_ok k.r2 && count_ok k.r3) ≡ true

module _ (iant : ℕ) (p : List Float) where
  pub accepted_limits : (n : ℕ) → refusal_of iant p n ≡ 0 → (slots_ok iant p ≡ true) × (table_size ≤ n) × (type_ok iant ≡ true) × (aim_ok iant p ≡ true)
  unfolding refusal_of
  accepted_limits n h =
      let h3 = (next (not (all_finite p)) _ _ h).1 in
      let t = next (not (type_ok iant)) _ _ h3 in
      let h6 = (next (not (band_ok iant p)) _ _ t.1).1 in
      let s = next (not (slots_ok iant p)) _ _ h6 in
      let a = next (not (aim_ok iant p)) _ _ s.1 in (
        not-false (slots_ok iant p) s.0,
        ltb-false n table_size (next (ltb n table_size) _ _ a.1).0,
        not-false (type_ok iant) t.0,
        not-false (aim_ok iant p) a.0,
      )

  pub nel_bounds : log_periodic iant ≡ true → slots_ok iant p ≡ true → (2 ≤ nel_of p) × (nel_of p ≤ 30)
  unfolding slots_ok
  nel_bounds l s =
      let b = both (leb 2 (nel_of p)) (leb (nel_of p) 30) (rw l at s) in
      (leb-true 2 (nel_of p) b.0, leb-true (nel_of p) 30 b.1)

  array_no_boom : array_type iant ≡ true → log_periodic iant ≡ false
  unfolding array_type log_periodic
  array_no_boom h =
      let l = leb-true iant 4 h in
      rw (ne_eqb iant 5 (λ e. omega arith), ne_eqb iant 6 (λ e. omega arith))

  by-type : (b : Boom) (x y z : Bool) → array_type iant ≡ x → slots_ok iant p ≡ true
      → CountsIn (constants_with p (cond x (array_own iant p) (cond y (boom_own b) (cond z (rhombic_own p) (crossed_own p)))))
  unfolding slots_ok number given constants_with array_own boom_own rhombic_own crossed_own count_ok le of_bits
  by-type b true y z e h = rw (array_no_boom e, e) at h
  by-type b false true z e h = refl
  by-type b false false true e h = refl
  by-type b false false false e h = refl

  pub constant_counts : (b : Boom) → slots_ok iant p ≡ true → CountsIn (constants_of iant p b)
  unfolding constants_of own_of
  constant_counts b h = by-type b (array_type iant) (log_periodic iant) (eqb iant 7) refl h

pub counts_made : (m : Model) → Listed m.elements.iek m.elements.nat → CountsIn m.constants → counts_ok m ≡ true
unfolding counts_ok
counts_made m l k = simp (le-leb m.elements.nat 30 l.few, l.named, k)

-- no elements are a list of none
pub none_listed : Listed no_elements.elements.iek no_elements.elements.nat
unfolding no_elements elements_ok
none_listed = record { few = omega arith; named = refl }

-- the lent floats after a refusal, and after an acceptance
pub refused-lent : (p lent : List Float) (n : ℕ) → set_up_of p (length lent) ≡ refused n → lent ≡ lent_after p lent
unfolding lent_after kept_after
refused-lent p lent n h = rw h

pub accepted-lent : (p lent t : List Float) (m : Model) (s : Search) → t ≡ table_of m → set_up_of p (length lent) ≡ accepted_of m s
    → laid lent 0 t ≡ lent_after p lent
unfolding lent_after kept_after accepted_of
accepted-lent p lent t m s e h = rw (h, e)
