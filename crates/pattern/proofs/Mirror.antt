-- The mirror law, direction by direction: the gain of types 1 to 6 is the same at a direction and at its mirror image.
use mathlib.Core.Path.{◌≡◌, refl}
use mathlib.Core.Bool.{Bool, true, false}
use mathlib.Core.List.{List}
use Prim.Native.Nat.{ℕ, zero, suc}
use lib.Ieee.{Float, binary32, neg}
use Rattle.sine.proofs.Laws.{sine-odd, cosine_even}
use Rattle.numeric.proofs.Laws.{neg-neg}
use Rattle.floats.specs.Ops.{◌⊖◌, ◌⊗◌, ◌⊘◌, +0, +0_is}
use Rattle.floats.specs.Literals.{one, two}
use Rattle.floats.specs.Opposite.{Opposite, negated, zeros}
use Rattle.model.specs.declared.record.Constants.{Constants}
use Rattle.model.specs.declared.record.Elements.{Elements}
use Rattle.model.specs.declared.record.Direction.{Direction}
use Rattle.model.specs.declared.record.Factors.{Factors}
use Rattle.model.specs.declared.record.Entry.{Entry}
use Rattle.floats.proofs.Negation.{mul-neg-left, mul-neg-right}
use Rattle.floats.proofs.Opposites.{add_opposite, square-same, minus-zero-odd}
use Rattle.booms.specs.declared.boom.Element.{Element}
use Rattle.booms.specs.declared.boom.Field.{Field}
use Rattle.directions.specs.Mirror.{mirror}
use Rattle.dipole_arrays.specs.Rows.{il_count, sine_sum, cosine_sum}
use Rattle.dipole_arrays.specs.Dipoles.{row_factor, dipole_factor, ground_factor, array_gain, screen_front, screen_factor, reflector_factor, gain1, gain2, gain3, gain4}
use Rattle.booms.specs.Boom.{gamma_of, across_below, across_factor, upright_factor, added, field_to, both_fields, gain5, gain6}

ruleset signs = (mul-neg-left, mul-neg-right, neg-neg, sine-odd, cosine_even)

-- ---- the factors of types 1 to 4

cosine_sum_even : (g : Float) (n : ℕ) → cosine_sum (neg g) n ≡ cosine_sum g n
unfolding cosine_sum
cosine_sum_even g zero = refl
cosine_sum_even g (suc n) = simp (signs, cosine_sum_even g n)

sine_sum-odd : (g : Float) (n : ℕ) → Opposite (sine_sum g n) (sine_sum (neg g) n)
unfolding sine_sum
sine_sum-odd g zero = zeros false false +0_is +0_is
sine_sum-odd g (suc n) = add_opposite binary32 (sine_sum-odd g n) (negated (simp signs))

row_factor_even : (g : Float) (n : ℕ) → row_factor (neg g) n ≡ row_factor g n
unfolding row_factor
row_factor_even g n = rw (cosine_sum_even g n, square-same binary32 (sine_sum-odd g n))

dipole_factor-mirror : (p c : Float) (d : Direction) → dipole_factor p c (mirror d) ≡ dipole_factor p c d
unfolding dipole_factor mirror
dipole_factor-mirror p c d = simp signs

ground_factor-mirror : (w : Factors) (d : Direction) → ground_factor w (mirror d) ≡ ground_factor w d
unfolding ground_factor mirror
ground_factor-mirror w d = simp signs

-- ---- types 1 to 4, unslewed

module _ (w : Factors) (d : Direction) where
  array_gain-mirror : (p c z2 pfb sl x : Float) → sl ≡ +0 → array_gain w (mirror d) p c z2 pfb sl x ≡ array_gain w d p c z2 pfb sl x
  unfolding array_gain mirror
  array_gain-mirror p c z2 pfb sl x z =
      rw (
        dipole_factor-mirror p c d,
        ground_factor-mirror w d,
        z,
        minus-zero-odd binary32 d.a1,
        mul-neg-right,
        row_factor_even,
      )

module _ (k : Constants) (w : Factors) (d : Direction) (z : k.sl ≡ +0) where
  pub gain1-mirror : (behind : Bool) → gain1 k w (mirror d) behind ≡ gain1 k w d behind
  unfolding gain1 screen_factor screen_front mirror
  gain1-mirror behind = array_gain-mirror w d k.p11 k.cp11 (screen_factor k d behind) (k.pfr ⊗ d.b0) k.sl (k.r2 ⊖ one) z

  pub gain2-mirror : gain2 k w (mirror d) ≡ gain2 k w d
  unfolding gain2 reflector_factor mirror
  gain2-mirror = array_gain-mirror w d k.p11 k.cp11 (reflector_factor k d) (k.pfr ⊗ d.b0) k.sl (k.r2 ⊖ one) z

  pub gain3-mirror : gain3 k w (mirror d) ≡ gain3 k w d
  unfolding gain3 reflector_factor mirror
  gain3-mirror = array_gain-mirror w d k.pfr k.cpfr (reflector_factor k d) (k.pfr ⊗ d.b0 ⊗ two) k.sl (k.r2 ⊘ two ⊖ one) z

  pub gain4-mirror : gain4 k w (mirror d) ≡ gain4 k w d
  unfolding gain4 mirror
  gain4-mirror =
      let pfb = k.pfr ⊗ d.b0 in
      array_gain-mirror w d k.p11 k.cp11 (row_factor (pfb ⊗ d.b1) (il_count (k.r3 ⊖ one))) pfb k.sl (k.r2 ⊖ one) z

-- ---- types 5 and 6

added-mirror : (upright : Bool) (beta gamma : Float) (d : Direction) (el : Element) (w : Entry) (s : Field)
    → added upright beta gamma (across_below (mirror d)) (mirror d) el w s ≡ added upright beta gamma (across_below d) d el w s
unfolding added upright_factor across_factor across_below mirror
added-mirror upright beta gamma d el w s = simp signs

module _ (k : Constants) (e : Elements) (table : List Float) (iu : ℕ) (d : Direction) where
  gamma_mirror : gamma_of k (mirror d) ≡ gamma_of k d
  unfolding gamma_of mirror
  gamma_mirror = refl

  field_to-mirror : (upright : Bool) (n : ℕ) → field_to upright k e table iu (mirror d) n ≡ field_to upright k e table iu d n
  unfolding field_to
  field_to-mirror upright zero = refl
  field_to-mirror upright (suc n) = rw (gamma_mirror, added-mirror, field_to-mirror upright n)

  pub gain5-mirror : gain5 k e table iu (mirror d) ≡ gain5 k e table iu d
  unfolding gain5 both_fields mirror
  gain5-mirror = simp (field_to-mirror false e.nat, signs)

  pub gain6-mirror : gain6 k e table iu (mirror d) ≡ gain6 k e table iu d
  unfolding gain6
  gain6-mirror = rw (field_to-mirror true e.nat)
