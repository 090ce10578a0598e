-- The greatest of a row's entries is one of them, and none is above it; where the row is its own mirror image, the entries on one side
-- and at 270 tell it. Of finite entries.
use Prim.Native.Nat.{ℕ, zero, suc, ◌+◌, ◌-◌, ◌≤◌, ◌<◌}
use mathlib.Core.Path.{◌≡◌, refl, sym, ap, subst, ◌∙◌}
use mathlib.Core.Bool.{Bool, true, false, cond}
use mathlib.Core.List.{List}
use lib.ListN.{length, get_or, take, drop, length-drop}
use lib.Seq.{get_or-drop}
use native.Mathlib.Numerals.{add-one}
use Rattle.std.specs.List.{fold}
use Rattle.std.proofs.lemmas.List.Sums.{fold_more}
use mathlib.Core.Logic.{⊎_elim}
use native.Mathlib.Nat.{eq-or-lt_of_le, le_refl}
use native.Mathlib.Omega.{arith}
use lib.Dec.{T}
use lib.Ieee.{Float, nan, lt, le}
use lib.Ieee.Scale.{finite}
use Rattle.floats.specs.Ops.{at}
use Rattle.floats.proofs.Order.{le_trans_finite}
use Rattle.plate_row.specs.Row.{larger, greatest_of, greatest}
use Rattle.plate_row.specs.Greatest.{IsGreatest}
use Rattle.search.proofs.Strict.{le_itself, lt-le, le_of_not_lt, not_lt_of_le}

-- the larger of two finite numbers is finite, and neither is above it
pub record Larger (x y z : Float) : Type 0 where
  pub real : T (finite z)
  pub left : T (le x z)
  pub right : T (le y z)

pub larger_bounds : (x y : Float) → T (finite x) → T (finite y) → Larger x y (larger x y)
unfolding larger
larger_bounds x y p q = go (lt x y) refl
  where
    go : (b : Bool) → lt x y ≡ b → Larger x y (cond b y x)
    go true e = record { real = q; left = lt-le x y e; right = le_itself y q }
    go false e = record { real = p; left = le_itself x p; right = le_of_not_lt x y p q e }

not_larger : (x y : Float) → lt x y ≡ false → larger x y ≡ x
unfolding larger
not_larger x y h = rw h

module _ (row : List Float) where
  -- one azimuth more
  pub one_more : (first v : ℕ) → first < v → greatest row first v ≡ larger (greatest row first (v - 1)) (at row v)
  unfolding greatest_of
  one_more first v h = go (v - 1 - first) (omega arith)
    where
      go : (n : ℕ) → v ≡ first + suc n → greatest_of row first (v - first) ≡ larger (greatest_of row first n) (at row v)
      go n e = let f : v - first ≡ suc n = omega arith in rw (f, e)

  -- folded over the entries after `first`
  greatest_fold : (first n : ℕ) → first + n < length row → greatest_of row first n ≡ fold larger (at row first) (take n (drop (suc first) row))
  unfolding greatest_of
  greatest_fold first zero h = refl
  greatest_fold first (suc n) h =
      let rest = drop (suc first) row in
      let there : get_or rest n nan ≡ at row (first + suc n) = get_or-drop (suc first) row n nan ∙ ap (λ (v : ℕ). get_or row v nan) (omega arith) in
      let step = fold_more larger (at row first) rest n nan (omega (arith, length-drop (suc first) row)) in
      rw (greatest_fold first n (omega arith), ← there) (sym (rw add-one at step))

  pub by_fold : length row ≡ 360 → fold larger (at row 90) (take 180 (drop 91 row)) ≡ greatest row 90 270
  by_fold h = sym (greatest_fold 90 180 (omega arith))

  -- the entries at `first` and the n azimuths after it are finite
  abbrev FiniteFrom : ℕ → ℕ → Type 0
  FiniteFrom first n = (v : ℕ) → first ≤ v → v ≤ first + n → T (finite (at row v))

  -- the greatest so far, by "at most"
  record Tops (first n : ℕ) (g : Float) : Type 0 where
    place : ℕ
    from : first ≤ place
    to : place ≤ first + n
    there : g ≡ at row place
    tops : (v : ℕ) → first ≤ v → v ≤ first + n → T (le (at row v) g)

  module _ (first n : ℕ) (g : Float) (f : FiniteFrom first (suc n)) (r : Tops first n g) where
    abbrev next : Float
    next = at row (first + suc n)

    next_finite : T (finite next)
    next_finite = f (first + suc n) (omega arith) (le_refl _)

    still_finite : T (finite g)
    still_finite = subst (λ (x : Float). T (finite x)) (sym r.there) (f r.place r.from (omega (arith, r.to)))

    -- v is the next azimuth or an earlier one
    each : (P : ℕ → Type 0) → P (first + suc n) → ((v : ℕ) → first ≤ v → v ≤ first + n → P v) → (v : ℕ) → first ≤ v → v ≤ first + suc n → P v
    each P last earlier v l h = ⊎_elim (λ (e : v ≡ first + suc n). subst P (sym e) last) (λ (i : v < first + suc n). earlier v l (omega arith)) (eq-or-lt_of_le h)

    tops_more : (b : Bool) → lt g next ≡ b → Tops first (suc n) (cond b next g)
    tops_more true e =
        record {
          place = first + suc n;
          from = omega arith;
          to = le_refl _;
          there = refl;
          tops = each (λ (v : ℕ). T (le (at row v) next)) (le_itself next next_finite) (λ v l h. le_trans_finite (at row v) g next still_finite (r.tops v l h) (lt-le g next e));
        }
    tops_more false e =
        record {
          place = r.place;
          from = r.from;
          to = omega (arith, r.to);
          there = r.there;
          tops = each (λ (v : ℕ). T (le (at row v) g)) (le_of_not_lt g next still_finite next_finite e) r.tops;
        }

  tops : (first n : ℕ) → FiniteFrom first n → Tops first n (greatest_of row first n)
  unfolding greatest_of larger
  tops first zero f =
      record {
        place = first;
        from = le_refl first;
        to = omega arith;
        there = refl;
        tops = λ v l h. let e : v ≡ first = omega arith in rw e (le_itself (at row first) (f first (le_refl first) (omega arith)));
      }
  tops first (suc n) f = tops_more first n (greatest_of row first n) f (tops first n (λ v l h. f v l (omega arith))) _ refl

  pub is-greatest : (first last : ℕ) → first ≤ last → ((v : ℕ) → first ≤ v → v ≤ last → finite (at row v) ≡ true)
      → IsGreatest row first last (greatest row first last)
  is-greatest first last o f =
      let held : (v : ℕ) → first ≤ v → v ≤ first + (last - first) → T (finite (at row v)) = λ v l h. subst T (sym (f v l (omega arith))) tt in
      let r = tops first (last - first) held in
      let own = subst (λ (x : Float). T (finite x)) (sym r.there) (held r.place r.from r.to) in
      record {
        place = r.place;
        from = r.from;
        to = omega (arith, r.to);
        there = r.there;
        none_above = λ v l h. not_lt_of_le (greatest row first last) (at row v) own (held v l (omega arith)) (r.tops v l (omega arith));
      }

  -- ---- a row that is its own mirror image behind

  module _ (f : (v : ℕ) → 90 ≤ v → v ≤ 270 → finite (at row v) ≡ true) (m : (v : ℕ) → 180 < v → v < 270 → at row v ≡ at row (360 - v)) where
    -- past 180 the greatest stays what it is
    stays : (k : ℕ) → k ≤ 89 → greatest row 90 (180 + k) ≡ greatest row 90 180
    stays zero h = refl
    stays (suc k) h =
        let v = 180 + suc k in
        let half = is-greatest 90 180 (omega arith) (λ w l i. f w l (omega arith)) in
        let before : v - 1 ≡ 180 + k = omega arith in
        let none : lt (greatest row 90 180) (at row (360 - v)) ≡ false = half.none_above (360 - v) (omega arith) (omega arith) in
        one_more 90 v (omega arith) ∙ (rw (before, stays k (omega arith), m v (omega arith) (omega arith)) (not_larger (greatest row 90 180) (at row (360 - v)) none))

    pub folded-greatest : greatest row 90 270 ≡ larger (greatest row 90 180) (at row 270)
    folded-greatest = one_more 90 270 (omega arith) ∙ ap (λ (g : Float). larger g (at row 270)) (stays 89 (omega arith))
