-- What a pass over a list of directions does, whatever its rule: it counts each reading once; and where every gain is finite and of two
-- gains the larger stays, what stays at the end is the greatest.
use Rattle.std.proofs.Common.{◌≡◌, ℕ, zero, suc, ◌+◌, true, T, ◌⊎◌, List, [], ◌∷◌, ◌++◌, map, length, sym, refl, ap, ◌∙◌, subst, ⊎_elim, arith}
use mathlib.Core.List.Memᴰ
use mathlib.Core.List.{Memᴰ}
use lib.Ieee.{Float, le}
use lib.Ieee.Scale.{finite}
use Rattle.floats.specs.Ops.{◌⊕◌}
use Rattle.floats.proofs.Order.{le_trans_finite}
use Rattle.floats.proofs.Tests.{both}
use Rattle.search.specs.Peaks.{Greatest}
use Rattle.search.specs.Search.{tallied, read_over, azimuths_from, elevations_after}
use Rattle.search.specs.declared.gainorm.Tally.{Tally}
use Rattle.search.proofs.Strict.{le_itself}

-- ---- the greatest of a list

-- y is the larger of w and x, where both are finite
abbrev pub Stays : Float → Float → Float → Type 0
Stays w x y = T (finite w) → T (finite x) → ((y ≡ x) × T (le w x)) ⊎ ((y ≡ w) × T (le x w))

each_of_two : (P : Float → Type 0) (w x : Float) → P w → P x → (y : Float) → Memᴰ y (w ∷ x ∷ []) → P y
each_of_two P w x p q y i =
    ⊎_elim (λ (e : y ≡ w). subst P (sym e) p)
    (λ (j : Memᴰ y (x ∷ [])). ⊎_elim (λ (e : y ≡ x). subst P (sym e) q) (λ (k : Memᴰ y []). absurd (Memᴰ.not-nil k)) (Memᴰ.cases_cons j))
    (Memᴰ.cases_cons i)

of_two : (w x y : Float) → Stays w x y → T (finite w) → T (finite x) → Greatest y (w ∷ x ∷ []) × T (finite y)
of_two w x y h p q = ⊎_elim
    (λ (c : (y ≡ x) × T (le w x)).
    subst Kept (sym c.0) (record { there = Memᴰ.tail (Memᴰ.head refl); none_above = each_of_two (λ (z : Float). T (le z x)) w x c.1 (le_itself x q) }, q))
    (λ (c : (y ≡ w) × T (le x w)).
    subst Kept (sym c.0) (record { there = Memᴰ.head refl; none_above = each_of_two (λ (z : Float). T (le z w)) w x (le_itself w p) c.1 }, p))
    (h p q)
  where
    Kept : Float → Type 0
    Kept z = Greatest z (w ∷ x ∷ []) × T (finite z)

-- the greatest of some, and of it and others, is the greatest of all
pub greatest-more : (y z : Float) (some others : List Float) → T (finite y) → Greatest y some → Greatest z (y ∷ others) → Greatest z (some ++ others)
greatest-more y z some others p g h =
    record {
      there = ⊎_elim (λ (e : z ≡ y). Memᴰ.append_left others (Memᴰ.cast e g.there)) (λ (i : Memᴰ z others). Memᴰ.append_right some i) (Memᴰ.cases_cons h.there);
      none_above =
          λ x i. ⊎_elim (λ (j : Memᴰ x some). le_trans_finite x y z p (g.none_above x j) (h.none_above y (Memᴰ.head refl)))
          (λ (j : Memᴰ x others). h.none_above x (Memᴰ.tail j)) (Memᴰ.append_cases some i);
    }

-- ---- how many directions there are
pub azimuths_length : (u v vm : Float) (n : ℕ) → length (azimuths_from u v vm n) ≡ n
unfolding azimuths_from
azimuths_length u v vm zero = refl
azimuths_length u v vm (suc n) = ap suc (azimuths_length u (v ⊕ vm) vm n)

pub elevations_length : (v : Float) (k n : ℕ) → length (elevations_after v k n) ≡ n
unfolding elevations_after
elevations_length v k zero = refl
elevations_length v k (suc n) = ap suc (elevations_length v (suc k) n)

-- ---- a rule that tallies each reading
module _ {S : Type 0} (rule : S → Float × Float → Float → S) (gain : Float × Float → Float) (tally : S → Tally) (told : (s : S) (d : Float × Float) (z9 : Float) → tally (rule s d z9) ≡ tallied (tally s) z9) where
  pub counted-over : (ds : List (Float × Float)) (s : S) → (tally (read_over rule gain s ds)).readings ≡ (tally s).readings + length ds
  unfolding read_over tallied
  counted-over [] s = omega arith
  counted-over (d ∷ ds) s =
      let r = rule s d (gain d) in
      omega (arith, counted-over ds r, ap (λ (n : Tally). n.readings) (told s d (gain d)))

  -- each of the gains is finite
  abbrev Finite : List (Float × Float) → Type 0
  Finite ds = (d : Float × Float) → Memᴰ d ds → T (finite (gain d))

  pub sound_over : (ds : List (Float × Float)) (s : S) → (tally (read_over rule gain s ds)).sound ≡ true → ((tally s).sound ≡ true) × Finite ds
  unfolding read_over tallied
  sound_over [] s h = (h, λ d i. absurd (Memᴰ.not-nil i))
  sound_over (d ∷ ds) s h =
      let r = rule s d (gain d) in
      let rest = sound_over ds r h in
      let here = both (tally s).sound (finite (gain d)) (sym (ap (λ (n : Tally). n.sound) (told s d (gain d))) ∙ rest.0) in (
        here.0,
        λ c i. ⊎_elim (λ (e : c ≡ d). subst (λ (x : Float × Float). T (finite (gain x))) (sym e) (subst T (sym here.1) tt)) (λ (j : Memᴰ c ds). rest.1 c j) (Memᴰ.cases_cons i),
      )

  -- and of two gains keeps the larger
  module _ (best : S → Float) (larger : (s : S) (d : Float × Float) (z9 : Float) → Stays (best s) z9 (best (rule s d z9))) where
    pub greatest-over : (ds : List (Float × Float)) (s : S) → T (finite (best s)) → Finite ds
        → Greatest (best (read_over rule gain s ds)) (best s ∷ map gain ds) × T (finite (best (read_over rule gain s ds)))
    unfolding read_over
    greatest-over [] s p f = (
      record {
        there = Memᴰ.head refl;
        none_above =
            λ x i. ⊎_elim (λ (e : x ≡ best s). subst (λ (y : Float). T (le y (best s))) (sym e) (le_itself (best s) p))
            (λ (j : Memᴰ x []). absurd (Memᴰ.not-nil j)) (Memᴰ.cases_cons i);
      },
      p,
    )
    greatest-over (d ∷ ds) s p f =
        let r = rule s d (gain d) in
        let two = of_two (best s) (gain d) (best r) (larger s d (gain d)) p (f d (Memᴰ.head refl)) in
        let rest = greatest-over ds r two.1 (λ c i. f c (Memᴰ.tail i)) in
        (greatest-more (best r) _ (best s ∷ gain d ∷ []) (map gain ds) two.1 two.0 rest.0, rest.1)
