-- The whole azimuths k and 360 - k fold to mirrored directions, or to one: a test computed over the 361 of them, and the law that
-- turns it into the rule.
use mathlib.Core.Path.{◌≡◌, refl, sym}
use mathlib.Core.Logic.{◌⊎◌, inl, inr}
use mathlib.Core.Bool.{Bool, true, false, ◌&&◌, ◌||◌, beq}
use mathlib.Core.List.{List}
use Prim.Native.Nat.{ℕ, ◌-◌, ◌≤◌}
use native.Mathlib.Omega.{arith}
use borrow.Author.Tests.{ne_eqb}
use lib.Dec.{T, eqb, eqb→eq}
use lib.ListN.{get_or}
use lib.Ieee.{Float, nan, rem, to_signed, lt, le, sub, of_bits, of_int, neg}
use lib.Ieee.Fits.{and_l, and_r}
use Rattle.floats.specs.Ops.{count}
use Rattle.floats.specs.Rounding.{ifix_of}
use Rattle.floats.proofs.Below.{all, all-at}
use Rattle.numeric.proofs.Laws.{neg-neg}
use Rattle.directions.specs.declared.azimuth.Quadrant.{Quadrant}
use Rattle.directions.specs.Mirror.{mirror}
use Rattle.directions.specs.Azimuth.{signed, back180, in_first, in_second, in_third, quadrant_of, direction_of, behind_screen}

-- ---- the quadrants of k and 360 - k

-- the same entry, and the cosine's sign the same
alike : Quadrant → Quadrant → Bool
alike p q = eqb p.jv q.jv && beq p.bn q.bn

-- and both before or both behind the screen
folds : ℕ → Bool
unfolding alike
folds k = alike (quadrant_of (count k)) (quadrant_of (count (360 - k))) && beq (behind_screen (count k)) (behind_screen (count (360 - k)))

passes : ℕ → Bool
unfolding folds
passes k = eqb k 90 || eqb k 270 || folds k

tested : T (all passes 361)
unfolding passes quadrant_of in_first in_second in_third ifix_of back180 behind_screen rem to_signed lt le sub of_bits of_int
tested = tt

passes_folds : (k : ℕ) → T (passes k) → (k ≡ 90 → ⊥) → (k ≡ 270 → ⊥) → T (folds k)
unfolding passes
passes_folds k t n m = simp (ne_eqb k 90 n, ne_eqb k 270 m) at t

folds_at : (k : ℕ) → k ≤ 360 → (k ≡ 90 → ⊥) → (k ≡ 270 → ⊥) → T (folds k)
folds_at k h n m = passes_folds k (all-at passes 361 tested k (omega arith)) n m

-- ---- from the quadrants to the directions

turned : (m n : Bool) (x : Float) → (signed n x ≡ neg (signed m x)) ⊎ (signed n x ≡ signed m x)
turned true true x = inr refl
turned true false x = inl (sym (neg-neg x))
turned false true x = inl refl
turned false false x = inr refl

beq-eq : (s t : Bool) → T (beq s t) → s ≡ t
beq-eq true true h = refl
beq-eq true false h = absurd h
beq-eq false true h = absurd h
beq-eq false false h = refl

-- q's direction is p's mirror image, or p's
abbrev pub Reflected : List Float → List Float → ℕ → Quadrant → Quadrant → Type 0
Reflected a b iu p q = (direction_of a b iu q ≡ mirror (direction_of a b iu p)) ⊎ (direction_of a b iu q ≡ direction_of a b iu p)

module _ (a b : List Float) (iu : ℕ) (p q : Quadrant) (j : p.jv ≡ q.jv) (n : p.bn ≡ q.bn) where
  reflected : Reflected a b iu p q
  unfolding direction_of mirror
  reflected = go (turned p.an q.an (get_or a q.jv nan))
    where
      go : (signed q.an (get_or a q.jv nan) ≡ neg (signed p.an (get_or a q.jv nan))) ⊎ (signed q.an (get_or a q.jv nan) ≡ signed p.an (get_or a q.jv nan))
          → Reflected a b iu p q
      go (inl e) = inl (rw (j, n, e))
      go (inr e) = inr (rw (j, n, e))

-- the whole azimuths k and 360 - k, but for 90 and 270: mirrored directions, or one direction
pub direction_mirror : (a b : List Float) (iu k : ℕ) → k ≤ 360 → (k ≡ 90 → ⊥) → (k ≡ 270 → ⊥) → Reflected a b iu (quadrant_of (count k)) (quadrant_of (count (360 - k)))
unfolding folds alike
direction_mirror a b iu k h n m =
    let p = quadrant_of (count k) in
    let q = quadrant_of (count (360 - k)) in
    let s = and_l (alike p q) _ (folds_at k h n m) in
    reflected a b iu p q (eqb→eq p.jv q.jv (and_l (eqb p.jv q.jv) _ s)) (beq-eq p.bn q.bn (and_r (eqb p.jv q.jv) _ s))

pub screen_mirror : (k : ℕ) → k ≤ 360 → (k ≡ 90 → ⊥) → (k ≡ 270 → ⊥) → behind_screen (count (360 - k)) ≡ behind_screen (count k)
unfolding folds
screen_mirror k h n m =
    sym (beq-eq (behind_screen (count k)) (behind_screen (count (360 - k))) (and_r (alike (quadrant_of (count k)) (quadrant_of (count (360 - k)))) _ (folds_at k h n m)))
