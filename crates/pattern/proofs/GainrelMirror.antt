-- `gainrel`'s mirror law over the whole azimuths: types 1 to 4 without slew, and types 5 and 6.
use mathlib.Core.Path.{◌≡◌, refl, sym}
use mathlib.Core.Logic.{◌⊎◌, inl, inr}
use mathlib.Core.Bool.{Bool, true, false, cond}
use mathlib.Core.List.{List}
use Prim.Native.Nat.{ℕ, ◌-◌, ◌≤◌}
use native.Mathlib.Omega.{arith}
use borrow.Author.Tests.{eqb-true, ne_eqb}
use lib.Dec.{eqb}
use lib.Ieee.{Float}
use Rattle.floats.specs.Ops.{+0, count}
use Rattle.floats.specs.Rounding.{ifix_of}
use Rattle.model.specs.Types.{crossed_type}
use Rattle.model.specs.declared.record.Direction.{Direction}
use Rattle.model.specs.declared.record.Model.{Model}
use Rattle.directions.specs.Mirror.{mirror}
use Rattle.directions.specs.Azimuth.{quadrant_of, direction_of, behind_screen}
use Rattle.pattern.specs.Gainrel.{factors_in, gain_in, gain_rel}
use Rattle.pattern.proofs.Mirror.{gain1-mirror, gain2-mirror, gain3-mirror, gain4-mirror, gain5-mirror, gain6-mirror}
use Rattle.directions.proofs.azimuth.Fold.{direction_mirror, screen_mirror}

-- equal where the test holds, and equal where it does not
either : (i n : ℕ) {x x' y y' : Float} → (i ≡ n → x ≡ x') → y ≡ y' → cond (eqb i n) x y ≡ cond (eqb i n) x' y'
either i n {x} {x'} {y} {y'} p q = go (eqb i n) refl
  where
    go : (b : Bool) → eqb i n ≡ b → cond b x y ≡ cond b x' y'
    go true e = p (eqb-true i n e)
    go false e = q

module _ (m : Model) (six : m.iant ≤ 6) (z : m.iant ≤ 4 → m.constants.sl ≡ +0) (table : List Float) where
  gain_in-mirror : (iu : ℕ) (d : Direction) (behind : Bool) → gain_in m table iu (mirror d) behind ≡ gain_in m table iu d behind
  unfolding gain_in crossed_type
  gain_in-mirror iu d behind =
      let i = m.iant in
      let k = m.constants in
      let w = factors_in m.ground iu in
      rw (ne_eqb i 7 (λ (e : i ≡ 7). omega arith), ne_eqb i 8 (λ (e : i ≡ 8). omega arith), ne_eqb i 9 (λ (e : i ≡ 9). omega arith))
      (either i 1 (λ (e : i ≡ 1). gain1-mirror k w d (z (omega arith)) behind)
      (either i 2 (λ (e : i ≡ 2). gain2-mirror k w d (z (omega arith)))
      (either i 3 (λ (e : i ≡ 3). gain3-mirror k w d (z (omega arith)))
      (either i 4 (λ (e : i ≡ 4). gain4-mirror k w d (z (omega arith)))
      (either i 5 (λ (e : i ≡ 5). gain5-mirror k m.elements table iu d)
      (either i 6 (λ (e : i ≡ 6). gain6-mirror k m.elements table iu d)
      refl))))))

  pub gain_rel-mirror : (u : Float) (n : ℕ) → n ≤ 360 → (n ≡ 90 → ⊥) → (n ≡ 270 → ⊥) → gain_rel m table u (count n) ≡ gain_rel m table u (count (360 - n))
  unfolding gain_rel
  gain_rel-mirror u n h a b = go (direction_mirror m.trig.a m.trig.b (ifix_of u) n h a b)
    where
      D : ℕ → Direction
      D v = direction_of m.trig.a m.trig.b (ifix_of u) (quadrant_of (count v))

      go : (D (360 - n) ≡ mirror (D n)) ⊎ (D (360 - n) ≡ D n) → gain_rel m table u (count n) ≡ gain_rel m table u (count (360 - n))
      go (inl e) = rw (screen_mirror n h a b, e) (sym (gain_in-mirror (ifix_of u) (D n) (behind_screen (count n))))
      go (inr e) = rw (screen_mirror n h a b, e)
