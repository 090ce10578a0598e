-- The mirror law for type 9, the crossed dipoles. Mirrored, the two change places; with no shift between them each sum of their fields is
-- the other's, or its negative, as long as the fields are finite.
use mathlib.Core.Path.{◌≡◌, refl, sym, ap, ◌∙◌}
use mathlib.Core.Bool.{true, false}
use lib.Dec.{T}
use lib.Ieee.{Float, nan, inf, fin, binary32, neg, sub, fits}
use lib.Ieee.Fits.{neg-fits, mul-fits}
use lib.Ieee.Scale.{finite}
use Rattle.numeric.specs.Float.{mag}
use Rattle.root.specs.Root.{sqrt_of}
use Rattle.sine.specs.Sine.{cosine}
use Rattle.sine.proofs.Laws.{cosine_even}
use Rattle.numeric.proofs.Laws.{neg-neg}
use Rattle.floats.specs.Ops.{◌⊕◌, ◌⊖◌, ◌⊗◌, ◌⊘◌, +0}
use Rattle.floats.specs.Literals.{one}
use Rattle.floats.specs.Opposite.{Opposite, negated}
use Rattle.floats.proofs.Negation.{mul-neg-left, mul-neg-right}
use Rattle.floats.proofs.Opposites.{with_neg, neg_opposite, add_opposite, sub_opposite, mul_opposite_left, mul_opposite_right, even_same, square-same}
use Rattle.floats.proofs.Finite.{finite-neg, finite-add, finite-sub, finite-mul}
use Rattle.floats.proofs.TimesUnit.{plus_comm, times_unit_re, times_unit_im}
use Rattle.floats.proofs.Unit.{InUnit, unit_mul, mag_less_square}
use Rattle.model.specs.declared.record.Constants.{Constants}
use Rattle.model.specs.declared.record.Direction.{Direction}
use Rattle.model.specs.declared.record.Factors.{Factors}
use Rattle.directions.specs.Literals.{cos45}
use Rattle.rhombic_crossed.specs.Complex.{times, plus, scaled, power_of}
use Rattle.directions.specs.Mirror.{mirror, behind}
use Rattle.rhombic_crossed.specs.Crossed.{gain89}
use Rattle.rhombic_crossed.specs.CrossedParts.{crossed_of, shift_of, vertical_of, horizontal_of, crossed_gain}
use Rattle.rhombic_crossed.specs.declared.complex.Complex.{Complex}
use Rattle.rhombic_crossed.specs.declared.crossed.Crossed.{Crossed}
use Rattle.rhombic_crossed.proofs.crossed.Whole.{crossed_whole}

ruleset signs = (mul-neg-left, mul-neg-right, neg-neg, cosine_even)

-- ---- complex numbers

abbrev unit : Complex
unit = record { re = one; im = +0 }

abbrev opposite : Complex → Complex
opposite x = record { re = neg x.re; im = neg x.im }

record Finite (x : Complex) : Type 0 where
  re : finite x.re ≡ true
  im : finite x.im ≡ true

record Held (x : Complex) : Type 0 where
  re : T (fits binary32 x.re)
  im : T (fits binary32 x.im)

-- the squares of both parts are the same
record Alike (x y : Complex) : Type 0 where
  re : x.re ⊗ x.re ≡ y.re ⊗ y.re
  im : x.im ⊗ x.im ≡ y.im ⊗ y.im

through : {x y z : Complex} → Alike x y → Alike y z → Alike x z
through p q = record { re = p.re ∙ q.re; im = p.im ∙ q.im }

back : {x y : Complex} → Alike x y → Alike y x
back p = record { re = sym p.re; im = sym p.im }

opposite_finite : (x : Complex) → Finite x → Finite (opposite x)
opposite_finite x h = record { re = rw finite-neg h.re; im = rw finite-neg h.im }

opposite_held : (x : Complex) → Held x → Held (opposite x)
opposite_held x h = record { re = neg-fits binary32 x.re h.re; im = neg-fits binary32 x.im h.im }

-- the two operands of a sum without shift
abbrev together : Complex → Complex → Complex
together x y = plus (times x unit) y

operands : (x y : Complex) → Finite (together x y) → Finite x × Finite y
unfolding times plus
operands x y h =
    let r = finite-add binary32 (x.re ⊗ one ⊖ x.im ⊗ +0) y.re h.re in
    let i = finite-add binary32 (x.re ⊗ +0 ⊕ x.im ⊗ one) y.im h.im in
    let s = finite-sub binary32 (x.re ⊗ one) (x.im ⊗ +0) r.0 in
    (record { re = (finite-mul binary32 x.re one s.0).0; im = (finite-mul binary32 x.im +0 s.1).0 }, record { re = r.1; im = i.1 })

-- ---- sums

negated_sum : (x y : Float) → (neg x ⊕ neg y) ⊗ (neg x ⊕ neg y) ≡ (x ⊕ y) ⊗ (x ⊕ y)
negated_sum x y = sym (square-same binary32 (add_opposite binary32 (with_neg x) (with_neg y)))

-- t is x, or both are zeros
sum_alike : (x y t : Float) → Opposite (neg x) t → (t ⊕ y) ⊗ (t ⊕ y) ≡ (x ⊕ y) ⊗ (x ⊕ y)
sum_alike x y t h = sym (square-same binary32 (add_opposite binary32 h (negated (sym (neg-neg y))))) ∙ negated_sum x y

unshifted : (x y : Complex) → Finite x → Held x → Alike (together x y) (plus x y)
unfolding times plus
unshifted x y f h =
    record {
      re = sum_alike x.re y.re (x.re ⊗ one ⊖ x.im ⊗ +0) (times_unit_re x.re x.im h.re f.im);
      im = sum_alike x.im y.im (x.re ⊗ +0 ⊕ x.im ⊗ one) (times_unit_im x.re x.im f.re h.im);
    }

swapped : (x y : Complex) → Alike (plus x y) (plus y x)
unfolding plus
swapped x y = record { re = rw (plus_comm binary32 x.re y.re); im = rw (plus_comm binary32 x.im y.im) }

turned : (x y : Complex) → Alike (plus (opposite x) (opposite y)) (plus x y)
unfolding plus
turned x y = record { re = negated_sum x.re y.re; im = negated_sum x.im y.im }

module _ (x y : Complex) (f : Finite (together x y)) (hx : Held x) (hy : Held y) where
  in_other_order : Alike (together y x) (together x y)
  in_other_order =
      let o = operands x y f in
      through (unshifted y x o.1 hy) (through (swapped y x) (back (unshifted x y o.0 hx)))

  in_other_order_turned : Alike (together (opposite y) (opposite x)) (together x y)
  in_other_order_turned =
      let o = operands x y f in
      through (unshifted (opposite y) (opposite x) (opposite_finite y o.1) (opposite_held y hy))
      (through (swapped (opposite y) (opposite x)) (through (turned x y) (back (unshifted x y o.0 hx))))

-- ---- the two dipoles

-- each in the other's place
abbrev exchanged : Crossed → Crossed
exchanged c = record { aa1 = c.bb1; bb1 = c.aa1; z1 = c.z2; z2 = c.z1 }

abbrev ground : Float → Float → Complex
ground re im = record { re = re; im = im }

scaled_held : (k : Float) (g : Complex) → Held (scaled k g)
unfolding scaled
scaled_held k g = record { re = mul-fits binary32 k g.re; im = mul-fits binary32 k g.im }

scaled_opposite : (k k' : Float) (g : Complex) → k' ≡ neg k → scaled k' g ≡ opposite (scaled k g)
unfolding scaled
scaled_opposite k k' g e = rw (e, mul-neg-left, mul-neg-left)

module _ (c : Crossed) (a0 s : Float) (g : Complex) where
  abbrev across : Float
  across = neg c.bb1 ⊗ a0 ⊗ s ⊗ c.z2

  abbrev along : Float
  along = c.aa1 ⊗ a0 ⊗ s ⊗ c.z1

  vertical_mirror : Finite (vertical_of c unit a0 s g) → Alike (vertical_of (exchanged c) unit a0 s g) (vertical_of c unit a0 s g)
  unfolding vertical_of
  vertical_mirror h =
      rw (
        scaled_opposite along (neg c.aa1 ⊗ a0 ⊗ s ⊗ c.z1) g (simp signs),
        scaled_opposite across (c.bb1 ⊗ a0 ⊗ s ⊗ c.z2) g (simp signs),
      )
      (in_other_order_turned (scaled across g) (scaled along g) h (scaled_held across g) (scaled_held along g))

module _ (c : Crossed) (w5 w6 : Float) where
  horizontal-mirror : Finite (horizontal_of c unit w5 w6) → Alike (horizontal_of (exchanged c) unit w5 w6) (horizontal_of c unit w5 w6)
  unfolding horizontal_of
  horizontal-mirror h =
      in_other_order
      (record { re = neg c.aa1 ⊗ w5 ⊗ c.z2; im = neg c.aa1 ⊗ w6 ⊗ c.z2 })
      (record { re = neg c.bb1 ⊗ w5 ⊗ c.z1; im = neg c.bb1 ⊗ w6 ⊗ c.z1 })
      h
      (record { re = mul-fits binary32 _ _; im = mul-fits binary32 _ _ })
      (record { re = mul-fits binary32 _ _; im = mul-fits binary32 _ _ })

-- ---- the gain

abbrev gain_from : Complex → Complex → Complex → Float
gain_from s t h = sqrt_of (power_of s ⊕ t.re ⊗ t.re ⊕ t.im ⊗ t.im ⊕ power_of h)

gain-alike : {s s' t t' h h' : Complex} → Alike s s' → Alike t t' → Alike h h' → gain_from s t h ≡ gain_from s' t' h'
unfolding power_of
gain-alike p q r = rw (p.re, p.im, q.re, q.im, r.re, r.im)

finite_sqrt : (x : Float) → finite (sqrt_of x) ≡ true → finite x ≡ true
unfolding sqrt_of
finite_sqrt nan h = h
finite_sqrt (inf true) h = h
finite_sqrt (inf false) h = h
finite_sqrt (fin s m e) h = refl

power_parts : (x : Complex) → finite (power_of x) ≡ true → Finite x
unfolding power_of
power_parts x f =
    let both = finite-add binary32 (x.re ⊗ x.re) (x.im ⊗ x.im) f in
    record { re = (finite-mul binary32 x.re x.re both.0).0; im = (finite-mul binary32 x.im x.im both.1).0 }

gain_parts : (s t h : Complex) → finite (gain_from s t h) ≡ true → Finite s × Finite t × Finite h
gain_parts s t h f =
    let st = power_of s ⊕ t.re ⊗ t.re in
    let all = finite-add binary32 (st ⊕ t.im ⊗ t.im) (power_of h) (finite_sqrt _ f) in
    let more = finite-add binary32 st (t.im ⊗ t.im) all.0 in
    let first = finite-add binary32 (power_of s) (t.re ⊗ t.re) more.0 in (
      power_parts s first.0,
      record { re = (finite-mul binary32 t.re t.re first.1).0; im = (finite-mul binary32 t.im t.im more.1).0 },
      power_parts h all.1,
    )

-- by the two dipoles as they are placed
abbrev placed : Crossed → Factors → Direction → Float
placed c w d =
    gain_from
    (vertical_of c unit d.a0 d.a0 (ground w.w3 w.w4))
    (vertical_of c unit d.a0 d.b0 (ground w.w9 w.w10))
    (horizontal_of c unit w.w5 w.w6)

gain_placed : (k : Constants) (w : Factors) (d : Direction) → gain89 9 k w d ≡ placed (crossed_of k d) w d
unfolding crossed_gain shift_of
gain_placed k w d = sym (crossed_whole 9 k w d)

exchanged_gain : (c : Crossed) (w : Factors) (d : Direction) → finite (placed c w d) ≡ true → placed (exchanged c) w d ≡ placed c w d
exchanged_gain c w d f =
    let parts = gain_parts _ _ _ f in
    gain-alike
    (vertical_mirror c d.a0 d.a0 (ground w.w3 w.w4) parts.0)
    (vertical_mirror c d.a0 d.b0 (ground w.w9 w.w10) parts.1)
    (horizontal-mirror c w.w5 w.w6 parts.2)

-- ---- a direction and its mirror image

pub minus-neg : (x y : Float) → x ⊖ neg y ≡ x ⊕ y
unfolding sub
minus-neg x y = rw neg-neg

plus_neg : (x y : Float) → x ⊕ neg y ≡ x ⊖ y
unfolding sub
plus_neg x y = refl

-- the directions of the two dipoles: from -1 to 1, as the cosine of the elevation is
pub record Lean (d : Direction) : Type 0 where
  pub first : InUnit (cos45 ⊗ (d.b1 ⊖ d.a1))
  pub second : InUnit (cos45 ⊗ (d.b1 ⊕ d.a1))
  pub elevation : InUnit d.b0

module _ (k : Constants) (d : Direction) (l : Lean d) where
  unsigned : (x : Float) → InUnit x → mag (one ⊖ x ⊗ d.b0 ⊗ (x ⊗ d.b0)) ≡ one ⊖ x ⊗ d.b0 ⊗ (x ⊗ d.b0)
  unsigned x h = mag_less_square (x ⊗ d.b0) (unit_mul x d.b0 h l.elevation)

  exchange : crossed_of k (mirror d) ≡ exchanged (crossed_of k d)
  unfolding crossed_of mirror
  exchange =
      rw (
        minus-neg d.b1 d.a1,
        plus_neg d.b1 d.a1,
        unsigned (cos45 ⊗ (d.b1 ⊖ d.a1)) l.first,
        unsigned (cos45 ⊗ (d.b1 ⊕ d.a1)) l.second,
      )

  pub gain9_mirror : (w : Factors) → finite (gain89 9 k w d) ≡ true → gain89 9 k w (mirror d) ≡ gain89 9 k w d
  unfolding mirror
  gain9_mirror w f =
      gain_placed k w (mirror d)
      ∙ ap (λ (c : Crossed). placed c w d) exchange
      ∙ exchanged_gain (crossed_of k d) w d (rw (gain_placed k w d) at f)
      ∙ sym (gain_placed k w d)

-- ---- a direction and the one behind it

-- each part has the other sign, or both are zeros
record Contrary (x y : Complex) : Type 0 where
  re : Opposite x.re y.re
  im : Opposite x.im y.im

contrary_alike : {x y : Complex} → Contrary x y → Alike x y
contrary_alike o = record { re = square-same binary32 o.re; im = square-same binary32 o.im }

contrary_together : {x x' y y' : Complex} → Contrary x x' → Contrary y y' → Contrary (together x y) (together x' y')
unfolding times plus
contrary_together p q =
    record {
      re = add_opposite binary32 (sub_opposite binary32 (mul_opposite_left binary32 one p.re) (mul_opposite_left binary32 +0 p.im)) q.re;
      im = add_opposite binary32 (add_opposite binary32 (mul_opposite_left binary32 +0 p.re) (mul_opposite_left binary32 one p.im)) q.im;
    }

contrary_scaled : {k k' : Float} (g : Complex) → Opposite k k' → Contrary (scaled k g) (scaled k' g)
unfolding scaled
contrary_scaled g o = record { re = mul_opposite_left binary32 g.re o; im = mul_opposite_left binary32 g.im o }

-- the two dipoles from behind
record Behind (c c' : Crossed) : Type 0 where
  first : Opposite c.aa1 c'.aa1
  second : Opposite c.bb1 c'.bb1
  z1 : c'.z1 ≡ c.z1
  z2 : c'.z2 ≡ c.z2

module _ {c c' : Crossed} (b : Behind c c') where
  vertical_behind : (a0 s : Float) (g : Complex) → Alike (vertical_of c' unit a0 s g) (vertical_of c unit a0 s g)
  unfolding vertical_of
  vertical_behind a0 s g =
      rw (b.z1, b.z2)
      (back
      (contrary_alike
      (contrary_together
      (contrary_scaled g (factor c.z2 (neg_opposite b.second)))
      (contrary_scaled g (factor c.z1 b.first)))))
    where
      factor : {x x' : Float} (z : Float) → Opposite x x' → Opposite (x ⊗ a0 ⊗ s ⊗ z) (x' ⊗ a0 ⊗ s ⊗ z)
      factor z o = mul_opposite_left binary32 z (mul_opposite_left binary32 s (mul_opposite_left binary32 a0 o))

  horizontal_behind : (w5 w6 : Float) → Alike (horizontal_of c' unit w5 w6) (horizontal_of c unit w5 w6)
  unfolding horizontal_of
  horizontal_behind w5 w6 =
      rw (b.z1, b.z2)
      (back
      (contrary_alike
      (contrary_together (factors c.z2 (neg_opposite b.first)) (factors c.z1 (neg_opposite b.second)))))
    where
      factors : {x x' : Float} (z : Float) → Opposite x x' → Contrary (record { re = x ⊗ w5 ⊗ z; im = x ⊗ w6 ⊗ z }) (record { re = x' ⊗ w5 ⊗ z; im = x' ⊗ w6 ⊗ z })
      factors z o =
          record { re = mul_opposite_left binary32 z (mul_opposite_left binary32 w5 o); im = mul_opposite_left binary32 z (mul_opposite_left binary32 w6 o) }

  placed_behind : (w : Factors) (d : Direction) → placed c' w d ≡ placed c w d
  placed_behind w d =
      gain-alike
      (vertical_behind d.a0 d.a0 (ground w.w3 w.w4))
      (vertical_behind d.a0 d.b0 (ground w.w9 w.w10))
      (horizontal_behind w.w5 w.w6)

module _ (k : Constants) (d : Direction) where
  dipoles_behind : Behind (crossed_of k d) (crossed_of k (behind d))
  unfolding crossed_of behind
  dipoles_behind =
      let f = mul_opposite_right binary32 cos45 (sub_opposite binary32 (with_neg d.b1) (with_neg d.a1)) in
      let s = mul_opposite_right binary32 cos45 (add_opposite binary32 (with_neg d.b1) (with_neg d.a1)) in
      record {
        first = f;
        second = s;
        z1 = sym (even_same (λ (x : Float). (cosine (k.p11 ⊗ x) ⊖ k.cp11) ⊘ mag (one ⊖ x ⊗ x)) (λ x. simp signs) (mul_opposite_left binary32 d.b0 f));
        z2 = sym (even_same (λ (x : Float). (cosine (k.p11 ⊗ x) ⊖ k.cp11) ⊘ (one ⊖ x ⊗ x)) (λ x. simp signs) (mul_opposite_left binary32 d.b0 s));
      }

  pub gain9_behind : (w : Factors) → gain89 9 k w (behind d) ≡ gain89 9 k w d
  unfolding behind
  gain9_behind w = gain_placed k w (behind d) ∙ placed_behind dipoles_behind w d ∙ sym (gain_placed k w d)
