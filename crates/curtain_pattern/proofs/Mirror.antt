-- The curtain's mirror law: without bay phases its pattern is the same at an azimuth and at its negative.
use mathlib.Core.Path.{◌≡◌, refl, sym}
use mathlib.Core.Bool.{Bool, true, false, cond}
use Prim.Native.Nat.{ℕ, zero, suc}
use lib.ListN.{get_or}
use lib.Ieee.{Float, nan, inf, fin, binary32, neg, lt, of_bits}
use Rattle.std.specs.Float.{float_with_sign}
use Rattle.numeric.specs.Float.{mag, copy_sign}
use Rattle.sine.specs.Sine.{sine, cosine}
use Rattle.sine.proofs.Laws.{sine-odd, sine-zero, cosine_even}
use Rattle.numeric.proofs.Laws.{neg-neg, mag-neg}
use Rattle.floats.specs.Ops.{◌⊖◌, +0_is}
use Rattle.floats.specs.Opposite.{Opposite, negated, zeros}
use Rattle.floats.proofs.Opposites.{with_neg, add_opposite, sub_opposite, mul_opposite_right, square-same, even_same, odd_opposite}
use Rattle.curtain_pattern.specs.Literals.{PI}
use Rattle.curtain_pattern.specs.Azimuth.{iaz, folded}
use Rattle.curtain_pattern.specs.Pattern.{ef_of, arg, bay_cosines, bay_sines, bay_power, stack_power, f2, stack_sines}
use Rattle.curtain_pattern.specs.declared.pattern.Curtain.{Curtain}

-- ---- the sine and the cosine of opposite angles

sine_opposite : {x y : Float} → Opposite x y → Opposite (sine x) (sine y)
sine_opposite = odd_opposite sine sine-odd sine-zero

cosine-same : {x y : Float} → Opposite x y → cosine x ≡ cosine y
cosine-same = even_same cosine cosine_even

-- ---- the pattern

-- every bay's phase is its own opposite: a zero, or a NaN
abbrev pub Unphased : Curtain → Type 0
Unphased ant = (i : ℕ) → Opposite (get_or ant.ps i nan) (get_or ant.ps i nan)

module _ (ant : Curtain) (u : Unphased ant) {x y : Float} (o : Opposite x y) where
  arg_opposite : (i : ℕ) → Opposite (arg ant x i) (arg ant y i)
  unfolding arg
  arg_opposite i = add_opposite binary32 (mul_opposite_right binary32 (get_or ant.y i nan) o) (u i)

  bay_cosines-same : (n : ℕ) → bay_cosines ant x n ≡ bay_cosines ant y n
  unfolding bay_cosines
  bay_cosines-same zero = refl
  bay_cosines-same (suc n) = rw (bay_cosines-same n, cosine-same (arg_opposite n))

  bay_sines_opposite : (n : ℕ) → Opposite (bay_sines ant x n) (bay_sines ant y n)
  unfolding bay_sines
  bay_sines_opposite zero = zeros false false +0_is +0_is
  bay_sines_opposite (suc n) =
      add_opposite binary32 (bay_sines_opposite n) (mul_opposite_right binary32 (get_or ant.r n nan) (sine_opposite (arg_opposite n)))

  bay_power-same : bay_power ant x ≡ bay_power ant y
  unfolding bay_power
  bay_power-same = rw (bay_cosines-same ant.nbs, square-same binary32 (bay_sines_opposite ant.nbs))

ef_same : (eil ceil : Float) {x y : Float} → Opposite x y → ef_of eil ceil x ≡ ef_of eil ceil y
unfolding ef_of
ef_same eil ceil o = rw (square-same binary32 o, cosine-same (mul_opposite_right binary32 eil o))

stack_power-same : (fz stheta cphi : Float) {x y : Float} → Opposite x y → stack_power fz stheta x cphi ≡ stack_power fz stheta y cphi
unfolding stack_power
stack_power-same fz stheta cphi o = rw (square-same binary32 (mul_opposite_right binary32 fz (mul_opposite_right binary32 stheta o)))

pub f2-mirror : (ant : Curtain) → Unphased ant → (theta : Float) {phi phi' : Float} → Opposite phi phi' → f2 ant theta phi ≡ f2 ant theta phi'
unfolding f2
f2-mirror ant u theta {phi} {phi'} o =
    let s = sine_opposite o in
    let p = mul_opposite_right binary32 (cosine theta) s in
    rw (cosine-same o, ef_same ant.eil ant.ceil p, bay_power-same ant u p, stack_power-same (stack_sines ant (sine theta) ant.nostak) (sine theta) (cosine phi') s)

-- ---- the azimuth

pub iaz-neg : (x : Float) → iaz (neg x) ≡ iaz x
unfolding iaz
iaz-neg x = rw mag-neg

either_opposite : (b : Bool) {x x' y y' : Float} → Opposite x x' → Opposite y y' → Opposite (cond b x y) (cond b x' y')
either_opposite true p q = p
either_opposite false p q = q

-- a number, whose sign the source's copysign takes
folded-number : (x : Float) → copy_sign PI (neg x) ≡ neg (copy_sign PI x) → Opposite (folded x) (folded (neg x))
unfolding folded
folded-number x e =
    let back : Opposite (x ⊖ copy_sign PI x) (neg x ⊖ copy_sign PI (neg x)) = sub_opposite binary32 (with_neg x) (negated e) in
    rw iaz-neg (either_opposite (iaz x) back (with_neg x))

folded-nan : folded nan ≡ nan
unfolding folded iaz lt of_bits float_with_sign
folded-nan = refl

pub folded-neg : (x : Float) → Opposite (folded x) (folded (neg x))
unfolding neg
folded-neg nan = rw folded-nan (negated refl)
folded-neg (inf true) = folded-number (inf true) (sym (neg-neg (mag PI)))
folded-neg (inf false) = folded-number (inf false) refl
folded-neg (fin true m e) = folded-number (fin true m e) (sym (neg-neg (mag PI)))
folded-neg (fin false m e) = folded-number (fin false m e) refl
