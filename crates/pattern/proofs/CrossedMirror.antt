-- `gainrel`'s mirror law for type 9, the crossed dipoles, at every whole azimuth, 90 and 270 too: alike where a gain is finite. And its gain is
-- never below 0.
use mathlib.Core.Path.{◌≡◌, refl, sym}
use mathlib.Core.Logic.{◌⊎◌, inl, inr}
use mathlib.Core.Bool.{Bool, true, false, not}
use mathlib.Core.List.{List}
use Prim.Native.Nat.{ℕ, ◌-◌, ◌*◌, ◌≤◌}
use native.Mathlib.Nat.{zero-mul}
use native.Mathlib.Omega.{arith}
use borrow.Author.Tests.{le-ltb, eqb-true, eqb-false}
use lib.Dec.{T, eqb}
use lib.IntN.{pos, ◌-ℤ◌}
use lib.ListN.{get_or}
use lib.Ieee.{Float, nan, inf, fin, binary32, up, neg, sub, rem, lt, le, of_int, to_signed, fits, of_bits}
use lib.Ieee.Fits.{add-fits}
use lib.Ieee.Scale.{finite}
use Rattle.std.specs.Float.{float_with_sign}
use Rattle.numeric.specs.Float.{mag}
use Rattle.root.specs.Root.{sqrt_of}
use Rattle.numeric.proofs.Laws.{neg-neg}
use Rattle.root.proofs.Laws.{sqrt_sign}
use Rattle.floats.specs.Ops.{◌⊖◌, ◌⊗◌, +0, count}
use Rattle.floats.specs.Rounding.{ifix_of}
use Rattle.floats.proofs.Unit.{InUnit}
use Rattle.model.specs.Types.{crossed_type}
use Rattle.model.specs.declared.record.Direction.{Direction}
use Rattle.model.specs.declared.record.Model.{Model}
use Rattle.model.specs.declared.record.Trig.{Trig}
use Rattle.directions.specs.Literals.{cos45}
use Rattle.directions.specs.Mirror.{mirror, behind}
use Rattle.directions.specs.Azimuth.{signed, back180, in_first, in_second, in_third, quadrant_of, direction_of}
use Rattle.rhombic_crossed.specs.Crossed.{gain89}
use Rattle.pattern.specs.Gainrel.{factors_in, gain_in, gain_rel}
use Rattle.directions.specs.declared.azimuth.Quadrant.{Quadrant}
use Rattle.directions.proofs.azimuth.Fold.{direction_mirror}
use Rattle.rhombic_crossed.proofs.crossed.Mirror.{Lean, minus-neg, gain9_mirror, gain9_behind}
use Rattle.pattern.proofs.gainrel.TableStart.{clamp_most, ifix_most}

-- ---- the tables

-- what the law asks of the tables of sines and cosines: cosines from -1 to 1, and so the directions of the two dipoles in each quadrant
pub record Bounded (t : Trig) : Type 0 where
  pub cosines : (j : ℕ) → j ≤ 90 → InUnit (get_or t.b j nan)
  pub dipoles : (j : ℕ) → j ≤ 90 → (an bn : Bool) → InUnit (cos45 ⊗ (signed bn (get_or t.b j nan) ⊖ signed an (get_or t.a j nan)))

back_most : (x : Float) → back180 x ≤ 90
unfolding back180
back_most x = clamp_most (pos 180 -ℤ to_signed 31 x)

jv_most : (v : Float) → (quadrant_of v).jv ≤ 90
unfolding quadrant_of
jv_most v = go (in_first v) (in_second v) (in_third v) refl refl refl
  where
    go : (p q r : Bool) → in_first v ≡ p → in_second v ≡ q → in_third v ≡ r → (quadrant_of v).jv ≤ 90
    go true q r e f g = rw e (ifix_most _)
    go false true r e f g = rw (e, f) (back_most _)
    go false false true e f g = rw (e, f, g) (ifix_most _)
    go false false false e f g = rw (e, f, g) (ifix_most _)

signed_not : (n : Bool) (x : Float) → signed (not n) x ≡ neg (signed n x)
signed_not true x = sym (neg-neg x)
signed_not false x = refl

module _ (t : Trig) (bounded : Bounded t) (iu : ℕ) (low : iu ≤ 90) (q : Quadrant) (few : q.jv ≤ 90) where
  lean : Lean (direction_of t.a t.b iu q)
  unfolding direction_of
  lean =
      record {
        first = bounded.dipoles q.jv few q.an q.bn;
        second = rw (signed_not, minus-neg) at (bounded.dipoles q.jv few (not q.an) q.bn);
        elevation = bounded.cosines iu low;
      }

-- ---- 90 and 270

at_90 : quadrant_of (count 90) ≡ record { jv = 90; an = false; bn = false }
unfolding quadrant_of in_first ifix_of rem to_signed lt le of_bits of_int
at_90 = refl

at_270 : quadrant_of (count 270) ≡ record { jv = 90; an = true; bn = true }
unfolding quadrant_of in_first in_second in_third ifix_of to_signed lt le sub of_bits of_int
at_270 = refl

from_behind : (a b : List Float) (iu : ℕ) → direction_of a b iu (quadrant_of (count 270)) ≡ behind (direction_of a b iu (quadrant_of (count 90)))
unfolding direction_of behind
from_behind a b iu = rw (at_90, at_270)

-- ---- the gain

mag_not_below : (x : Float) → lt (mag x) +0 ≡ false
unfolding lt of_bits float_with_sign
mag_not_below nan = refl
mag_not_below (inf s) = refl
mag_not_below (fin s m e) = rw zero-mul (le-ltb (m * up e * 1) 0 (omega arith))

sqrt_not_below : (x : Float) → T (fits binary32 x) → lt (sqrt_of x) +0 ≡ false
unfolding sqrt_of lt of_bits
sqrt_not_below x h = go (sqrt_sign x h)
  where
    go : (mag (sqrt_of x) ≡ sqrt_of x) ⊎ (x ≡ fin true 0 (pos 0)) → lt (sqrt_of x) +0 ≡ false
    go (inl e) = rw e at (mag_not_below (sqrt_of x))
    go (inr e) = rw e

module _ (m : Model) (nine : m.iant ≡ 9) (table : List Float) where
  gain_in_crossed : (iu : ℕ) (d : Direction) (behind : Bool) → gain_in m table iu d behind ≡ gain89 9 m.constants (factors_in m.ground iu) d
  unfolding gain_in crossed_type
  gain_in_crossed iu d behind = rw nine

  pub gain_rel-not-below : (u v : Float) → lt (gain_rel m table u v) +0 ≡ false
  unfolding gain_rel gain89
  gain_rel-not-below u v = rw gain_in_crossed (sqrt_not_below _ (add-fits binary32 _ _))

  -- 90 and 270
  gain_behind : (u : Float) → gain_rel m table u (count 270) ≡ gain_rel m table u (count 90)
  unfolding gain_rel
  gain_behind u = rw (gain_in_crossed, gain_in_crossed, from_behind) (gain9_behind m.constants _ _)

  module _ (bounded : Bounded m.trig) (u : Float) where
    abbrev D : ℕ → Direction
    D v = direction_of m.trig.a m.trig.b (ifix_of u) (quadrant_of (count v))

    lean-at : (n : ℕ) → Lean (D n)
    lean-at n = lean m.trig bounded (ifix_of u) (ifix_most u) (quadrant_of (count n)) (jv_most (count n))

    gain-mirrored : (n : ℕ) → n ≤ 360 → (n ≡ 90 → ⊥) → (n ≡ 270 → ⊥) → finite (gain_rel m table u (count n)) ≡ true
        → gain_rel m table u (count (360 - n)) ≡ gain_rel m table u (count n)
    unfolding gain_rel
    gain-mirrored n h x y f = go (direction_mirror m.trig.a m.trig.b (ifix_of u) n h x y)
      where
        go : (D (360 - n) ≡ mirror (D n)) ⊎ (D (360 - n) ≡ D n) → gain_rel m table u (count (360 - n)) ≡ gain_rel m table u (count n)
        go (inl e) = rw (gain_in_crossed, gain_in_crossed, e) (gain9_mirror m.constants (D n) (lean-at n) _ (rw gain_in_crossed at f))
        go (inr e) = rw (gain_in_crossed, gain_in_crossed, e)

    pub gain_rel_crossed : (n : ℕ) → n ≤ 360 → finite (gain_rel m table u (count n)) ≡ true → gain_rel m table u (count (360 - n)) ≡ gain_rel m table u (count n)
    gain_rel_crossed n h f = go (eqb n 90) (eqb n 270) refl refl
      where
        go : (b c : Bool) → eqb n 90 ≡ b → eqb n 270 ≡ c → gain_rel m table u (count (360 - n)) ≡ gain_rel m table u (count n)
        go true c x y = rw (eqb-true n 90 x) (gain_behind u)
        go false true x y = rw (eqb-true n 270 y) (sym (gain_behind u))
        go false false x y = gain-mirrored n h (eqb-false n 90 x) (eqb-false n 270 y) f
