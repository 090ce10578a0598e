-- Each number of an accepted row is `ccirgain`'s at its azimuth, with the kind that `ccirgain` gives it.
use Prim.Native.Nat.{ℕ, ◌^◌, ◌≤◌, ◌<◌}
use mathlib.Core.Path.{◌≡◌, refl}
use mathlib.Core.Bool.{true}
use mathlib.Core.List.{List}
use native.Mathlib.Omega.{arith}
use borrow.Author.Tests.{ltb-false}
use lib.Dec.{T, ltb, le→leb}
use lib.ListN.{length, get_or}
use lib.Ieee.{Float, nan, inf, fin, binary32, in_signed, in_float}
use lib.Ieee.Scale.{finite}
use lib.Ieee.Back.{positive_back}
use Rattle.floats.specs.Ops.{count}
use Rattle.answers.specs.Outcome.{accepted}
use Rattle.answers.proofs.Outcome.{passed}
use Rattle.floats.proofs.Tests.{both, finite-at}
use Rattle.floats.proofs.Filled.{filled-length, filled_at}
use Rattle.antenna.specs.Asked.{asked_refusal}
use Rattle.antenna.specs.TableSum.{own_table}
use Rattle.antenna.specs.Gain.{kind_of, graded, number_at, gain_asked, gain_of}
use Rattle.plate_row.specs.Row.{numbers_of, row_asked, row_of}
use Rattle.antenna.specs.declared.record.Antenna.{Antenna}
use Rattle.antenna_laws.proofs.Outcomes.{accepted-row-finite}
use Rattle.antenna.proofs.Granted.{Granted, granted, none-refused}

whole-finite : (x : Float) → T (in_signed binary32 31 x) → finite x ≡ true
unfolding in_signed
whole-finite nan t = absurd t
whole-finite (inf s) t = absurd t
whole-finite (fin s m e) t = refl

pub azimuth_finite : (v : ℕ) → v ≤ 360 → finite (count v) ≡ true
unfolding in_float
azimuth_finite v h = whole-finite (count v) (positive_back binary32 31 v (le→leb v (2 ^ 24) (omega arith)) (omega arith)).0

module _ (a : Antenna) (t : List Float) (u giso : Float) where
  -- the number at an azimuth
  abbrev at_azimuth : ℕ → Float
  at_azimuth v = number_at a.model a.peak.z6 t u (count v) giso

  pub row_number : (v : ℕ) → v < 360 → get_or (numbers_of a t u giso) v nan ≡ at_azimuth v
  unfolding numbers_of
  row_number v h = filled_at at_azimuth 360 360 v (omega arith) h

  module _ {x : Float} (h : row_of a t u giso 360 ≡ accepted x) where
    limits : Granted a.model (length t) (row_asked (own_table a t) u giso 360)
    unfolding row_of
    limits =
        let number = asked_refusal a.model (length t) (row_asked (own_table a t) u giso 360) in
        let none = ltb-false 0 number (passed (ltb 0 number) _ _ h).0 in
        granted a.model (length t) (row_asked (own_table a t) u giso 360) (omega (arith, none))

    gain_limits : (v : ℕ) → v < 360 → Granted a.model (length t) (gain_asked (own_table a t) u (count v) giso)
    unfolding row_asked gain_asked
    gain_limits v i =
        let values = both (finite u) (finite giso) limits.values in
        record {
          values = simp (values.0, values.1, azimuth_finite v (omega arith));
          type = limits.type;
          counts = limits.counts;
          aim = refl;
          table = limits.table;
          space = refl;
          own = limits.own;
        }

    pub number-finite : (v : ℕ) → v < 360 → finite (at_azimuth v) ≡ true
    unfolding numbers_of
    number-finite v i =
        let inside : v < length (numbers_of a t u giso) = rw (filled-length at_azimuth 360 360) i in
        rw (row_number v i) at (finite-at (numbers_of a t u giso) v (accepted-row-finite a t u giso 360 h).0 inside)

    pub accepted_row_gains : (v : ℕ) → v < 360
        → let g = get_or (numbers_of a t u giso) v nan in gain_of a t u (count v) giso ≡ accepted (kind_of a.peak.z6 g, g)
    unfolding gain_of graded
    accepted_row_gains v i = simp (none-refused _ _ _ (gain_limits v i), row_number v i, number-finite v i)
