-- A direction whose gain is at most 0.03162278 of the peak is counted where it is a level. Assumes nothing.
use Prim.Native.Nat.{ℕ}
use mathlib.Core.Path.{◌≡◌, refl, sym, ap, ◌∙◌}
use mathlib.Core.Bool.{Bool, true, false, cond, not, true≢false}
use mathlib.Core.List.{List}
use native.Mathlib.Omega.{arith}
use lib.Dec.{ltb}
use lib.ListN.{length}
use lib.Ieee.{Float, neg, add, lt, le, eq, round, of_bits}
use lib.Ieee.Scale.{finite}
use Rattle.floats.specs.Ops.{◌⊕◌, ◌⊘◌, +0}
use Rattle.answers.specs.Outcome.{accepted}
use Rattle.answers.proofs.Outcome.{passed, same}
use Rattle.pattern.specs.Gainrel.{gain_rel}
use Rattle.antenna.specs.declared.record.Antenna.{Antenna}
use Rattle.antenna.specs.Asked.{asked_refusal}
use Rattle.antenna.specs.TableSum.{own_table}
use Rattle.antenna.specs.Literals.{floor_ratio}
use Rattle.answers.specs.declared.Kind.{Kind}
use Rattle.answers.specs.declared.Kind.TheVariants.{Level, Floor, Silence}
use Rattle.antenna.specs.Gain.{floor_level, floored, ratio_level, decibels_of, kind_of, graded, number_at, gain_asked, gain_of}
use Rattle.remarks.specs.Directions.{is_floor}

-- what a level is not
level-only : (z6 g : Float) → kind_of z6 g ≡ Level → (eq z6 +0 ≡ false) × (eq g floor_level ≡ false)
unfolding kind_of
level-only z6 g = go (eq z6 +0) (eq g floor_level)
  where
    go : (a b : Bool) → cond a Silence (cond b Floor Level) ≡ Level → (a ≡ false) × (b ≡ false)
    go true b e = let z : ◌≡◌ {A = ℕ} 0 1 = cc in absurd (omega arith)
    go false true e = let z : ◌≡◌ {A = ℕ} 0 1 = cc in absurd (omega arith)
    go false false e = (refl, refl)

-- a sum that was cut off is a floor
not-cut : (x : Float) → eq (floored x) floor_level ≡ false → floored x ≡ x
unfolding floored eq neg of_bits
not-cut x = go (lt x floor_level)
  where
    go : (b : Bool) → eq (cond b floor_level x) floor_level ≡ false → cond b floor_level x ≡ x
    go true e = absurd (true≢false e)
    go false e = refl

floor-kept : floored floor_level ≡ floor_level
unfolding floored lt neg of_bits
floor-kept = refl

-- the number of a level at the limit, by the relative gain z9 and the peak z6
limit-number : (z9 z6 giso g : Float) → decibels_of z9 z6 giso ≡ g → kind_of z6 g ≡ Level → le (z9 ⊘ z6) floor_ratio ≡ true → g ≡ floor_level ⊕ giso
unfolding decibels_of ratio_level
limit-number z9 z6 giso g number kind small =
    let k = level-only z6 g kind in
    let cut : floored (floor_level ⊕ giso) ≡ g = rw (k.0, small, floor-kept) at number in
    sym cut ∙ not-cut (floor_level ⊕ giso) (rw cut k.1)

-- with a maximum gain of 0 it is the floor
zero-added : floored (floor_level ⊕ +0) ≡ floor_level
unfolding floored lt neg of_bits add round
zero-added = refl

floor_itself : eq floor_level floor_level ≡ true
unfolding eq neg of_bits
floor_itself = refl

limit_relative : (z9 z6 : Float) → eq z6 +0 ≡ false → le (z9 ⊘ z6) floor_ratio ≡ true → kind_of z6 (decibels_of z9 z6 +0) ≡ Floor
unfolding decibels_of ratio_level kind_of
limit_relative z9 z6 some small = rw (some, small, floor-kept, zero-added, floor_itself)

-- what an accepted answer is
answer-is : (a : Antenna) (t : List Float) (u v giso : Float) {k : Kind} {g : Float} → gain_of a t u v giso ≡ accepted (k, g)
    → let n = decibels_of (gain_rel a.model t u v) a.peak.z6 giso in (n ≡ g) × (kind_of a.peak.z6 n ≡ k)
unfolding gain_of graded number_at
answer-is a t u v giso {k} {g} h =
    let z6 = a.peak.z6 in
    let n = decibels_of (gain_rel a.model t u v) z6 giso in
    let asked = (passed (ltb 0 (asked_refusal a.model (length t) (gain_asked (own_table a t) u v giso))) _ _ h).1 in
    let told : ◌≡◌ {A = Kind × Float} (kind_of z6 n, n) (k, g) = same (passed (not (finite n)) _ _ asked).1 in
    (ap (λ (w : Kind × Float). w.1) told, ap (λ (w : Kind × Float). w.0) told)

-- a direction whose gain is at most 0.03162278 of the peak, where `ccirgain` answers a level: below the peak it is a floor, so it is
-- counted, and its number is -30 with the maximum gain added
pub limit-is-counted : (a : Antenna) (t : List Float) (u v giso : Float) {g r : Float} {k : Kind} → gain_of a t u v giso ≡ accepted (Level, g) → gain_of a t u v +0 ≡ accepted (k, r)
    → le (gain_rel a.model t u v ⊘ a.peak.z6) floor_ratio ≡ true
    → (is_floor (gain_of a t u v +0) ≡ true) × (g ≡ floor_level ⊕ giso)
unfolding is_floor
limit-is-counted a t u v giso {g} {r} {k} h below small =
    let z9 = gain_rel a.model t u v in
    let z6 = a.peak.z6 in
    let shown = answer-is a t u v giso h in
    let kind : kind_of z6 g ≡ Level = rw shown.0 at shown.1 in
    let is-floor : k ≡ Floor = sym (answer-is a t u v +0 below).1 ∙ limit_relative z9 z6 (level-only z6 g kind).0 small in
    (rw (below, is-floor), limit-number z9 z6 giso g shown.0 kind small)
