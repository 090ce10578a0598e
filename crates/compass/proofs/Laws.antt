-- What is known of the points: the four winds, the mirror, and how far they go. Assumes nothing.
use mathlib.Core.Path.{◌≡◌, refl, ap, ◌∙◌}
use mathlib.Core.Bool.{Bool, true, false, not, ◌&&◌, ◌||◌, cond}
use Prim.Native.Nat.{ℕ, ◌+◌, ◌-◌, ◌*◌, ◌^◌, ◌≤◌}
use native.Mathlib.Omega.{arith}
use lib.Dec.{T, eqb, eqb→eq}
use Rattle.sine.specs.Sine.{next_term, sums, cut, sine_units}
use Rattle.compass.specs.Compass.{centre, units_of, folded_of, sine_size, part_of, rises_at, x_of, y_of, point_of}
use Rattle.compass.proofs.Sines.{size-at-most, part-at-most}
use Rattle.compass.proofs.Tests.{all, at, left, right}

-- ---- the four winds

no_part : (v r : ℕ) → sine_size v ≡ 0 → part_of v r ≡ 0
unfolding part_of
no_part v r e = rw e (omega arith)

whole_part : (v r : ℕ) → sine_size v ≡ 2 ^ 30 → part_of v r ≡ r
unfolding part_of
whole_part v r e = rw e (omega arith)

sine_0 : sine_size 0 ≡ 0
unfolding sine_size sine_units cut sums next_term units_of folded_of
sine_0 = refl

sine_90 : sine_size 90 ≡ 2 ^ 30
unfolding sine_size sine_units cut sums next_term units_of folded_of
sine_90 = refl

-- the degrees 180, 270 and 360 have the sizes of 0, 90 and 0
same_size : (v w : ℕ) → folded_of v ≡ folded_of w → sine_size v ≡ sine_size w
unfolding sine_size
same_size v w e = ap (λ (d : ℕ). sine_units (units_of d)) e

sine_180 : sine_size 180 ≡ 0
unfolding folded_of
sine_180 = same_size 180 0 refl ∙ sine_0

sine_270 : sine_size 270 ≡ 2 ^ 30
unfolding folded_of
sine_270 = same_size 270 90 refl ∙ sine_90

sine_360 : sine_size 360 ≡ 0
unfolding folded_of
sine_360 = same_size 360 0 refl ∙ sine_0

module _ (r : ℕ) where
  pub north : point_of 0 r ≡ record { x = centre; y = centre - r }
  unfolding point_of x_of y_of rises_at
  north = rw (no_part 0 r sine_0, whole_part 90 r sine_90) refl

  pub east : point_of 90 r ≡ record { x = centre + r; y = centre }
  unfolding point_of x_of y_of rises_at
  east = rw (whole_part 90 r sine_90, no_part 180 r sine_180) refl

  pub south : point_of 180 r ≡ record { x = centre; y = centre + r }
  unfolding point_of x_of y_of rises_at
  south = rw (no_part 180 r sine_180, whole_part 270 r sine_270) refl

  pub west : point_of 270 r ≡ record { x = centre - r; y = centre }
  unfolding point_of x_of y_of rises_at
  west = rw (whole_part 270 r sine_270, no_part 360 r sine_360) refl

-- ---- how far

part-within : (v r : ℕ) → part_of v r ≤ r
unfolding part_of
part-within v r = part-at-most r (sine_size v) (size-at-most v)

-- a coordinate at most r from the centre's
abbrev pub Near : ℕ → ℕ → Type 0
Near r x = (x ≤ centre + r) × (centre ≤ x + r)

near : (b : Bool) (k r : ℕ) → k ≤ r → Near r (cond b (centre + k) (centre - k)) × Near r (cond b (centre - k) (centre + k))
near true k r h = ((omega arith, omega arith), (omega arith, omega arith))
near false k r h = ((omega arith, omega arith), (omega arith, omega arith))

pub within : (v r : ℕ) → Near r (x_of v r) × Near r (y_of v r)
unfolding x_of y_of
within v r =
    ((near (rises_at v) (part_of v r) r (part-within v r)).0, (near (rises_at (v + 90)) (part_of (v + 90) r) r (part-within (v + 90) r)).1)

-- ---- the mirror

unlike : Bool → Bool → Bool
unlike true b = not b
unlike false b = b

-- of two azimuths: sines of one size, with opposite signs or none
opposite : ℕ → ℕ → Bool
opposite v w = eqb (folded_of v) (folded_of w) && (eqb (folded_of w) 0 || unlike (rises_at v) (rises_at w))

-- sines of one size, with equal signs or none
equal : ℕ → ℕ → Bool
equal v w = eqb (folded_of v) (folded_of w) && (eqb (folded_of w) 0 || not (unlike (rises_at v) (rises_at w)))

mirrors : ℕ → Bool
mirrors v = opposite (360 - v) v && equal (360 - v + 90) (v + 90)

mirrors_all : (v : ℕ) → v ≤ 360 → T (mirrors v)
unfolding all mirrors opposite equal unlike folded_of rises_at
mirrors_all v h = at mirrors 361 tt v (omega arith)

same-part : (v w r : ℕ) → T (eqb (folded_of v) (folded_of w)) → part_of v r ≡ part_of w r
unfolding part_of
same-part v w r t = rw (same_size v w (eqb→eq _ _ t))

part_none : (w r : ℕ) → T (eqb (folded_of w) 0) → part_of w r ≡ 0
unfolding folded_of
part_none w r t = no_part w r (same_size w 0 (eqb→eq _ _ t) ∙ sine_0)

turned : (e a b : Bool) (k : ℕ) → k ≤ centre → (T e → k ≡ 0) → T (e || unlike a b) → cond a (centre + k) (centre - k) + cond b (centre + k) (centre - k) ≡ 2 * centre
unfolding unlike
turned e true false k h z t = omega arith
turned e false true k h z t = omega arith
turned true true true k h z t = omega (arith, z tt)
turned true false false k h z t = omega (arith, z tt)
turned false true true k h z t = absurd t
turned false false false k h z t = absurd t

kept : (e a b : Bool) (k : ℕ) → (T e → k ≡ 0) → T (e || not (unlike a b)) → cond a (centre - k) (centre + k) ≡ cond b (centre - k) (centre + k)
unfolding unlike
kept e true true k z t = refl
kept e false false k z t = refl
kept true true false k z t = rw (z tt) refl
kept true false true k z t = rw (z tt) refl
kept false true false k z t = absurd t
kept false false true k z t = absurd t

x_opposite : (v w r : ℕ) → r ≤ centre → T (opposite v w) → x_of v r + x_of w r ≡ 2 * centre
unfolding x_of opposite
x_opposite v w r h t =
    let size = eqb (folded_of v) (folded_of w) in
    let none = eqb (folded_of w) 0 in
    let signs = none || unlike (rises_at v) (rises_at w) in
    rw (same-part v w r (left size signs t))
    (turned none (rises_at v) (rises_at w) (part_of w r) (omega (arith, part-within w r)) (part_none w r) (right size signs t))

y_equal : (v w r : ℕ) → T (equal (v + 90) (w + 90)) → y_of v r ≡ y_of w r
unfolding y_of equal
y_equal v w r t =
    let size = eqb (folded_of (v + 90)) (folded_of (w + 90)) in
    let none = eqb (folded_of (w + 90)) 0 in
    let signs = none || not (unlike (rises_at (v + 90)) (rises_at (w + 90))) in
    rw (same-part (v + 90) (w + 90) r (left size signs t))
    (kept none (rises_at (v + 90)) (rises_at (w + 90)) (part_of (w + 90) r) (part_none (w + 90) r) (right size signs t))

-- an azimuth and its mirror have the same y, and their x are as far to either side of the centre
pub mirrored : (v r : ℕ) → v ≤ 360 → r ≤ centre → (x_of (360 - v) r + x_of v r ≡ 2 * centre) × (y_of (360 - v) r ≡ y_of v r)
unfolding mirrors
mirrored v r h k =
    let sines = opposite (360 - v) v in
    let cosines = equal (360 - v + 90) (v + 90) in
    let t = mirrors_all v h in
    (x_opposite (360 - v) v r k (left sines cosines t), y_equal (360 - v) v r (right sines cosines t))
