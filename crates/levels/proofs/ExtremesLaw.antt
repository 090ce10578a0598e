-- What is shown of a run is what stands in its tail, and nothing else does: `extremes_law`. Assumes nothing.
use mathlib.Core.Path.{◌≡◌, refl, sym, ap, subst, ◌∙◌}
use mathlib.Core.Bool.{Bool, true, false, cond, false≢true}
use mathlib.Core.List.{List, [], ◌∷◌, ◌++◌, append-nil, append_assoc, head-eq_of_cons-eq, tail-eq_of_cons-eq, foldl}
use Prim.Native.Nat.{ℕ, ◌-◌}
use native.Mathlib.Omega.{arith}
use lib.ListN.{length, take, take-append-drop}
use lib.Seq.{append_snoc}
use lib.Ieee.{Float}
use lib.Ieee.Scale.{finite}
use Rattle.std.proofs.Common.{Some}
use Rattle.levels.specs.declared.Levels.{Levels}
use Rattle.levels.specs.Shown.{levels, greater, lesser, screen_of}
use Rattle.levels.specs.Run.{counted, tail}
use Rattle.levels.specs.ExtremesLaw.{Each, none, also, Stands, above, under, ExtremesLaw}
use Rattle.levels.proofs.Order.{lt_asymmetric, above_across, under_across}

module _ {P : Float → Type 0} where
  each_append : {xs ys : List Float} → Each P xs → Each P ys → Each P (xs ++ ys)
  each_append none q = q
  each_append (also h p) q = also h (each_append p q)

  each-parts : (xs : List Float) {ys : List Float} → Each P (xs ++ ys) → Each P xs × Each P ys
  each-parts [] p = (none, p)
  each-parts (x ∷ xs) (also h p) = let q = each-parts xs p in (also h q.0, q.1)

abbrev Finite : List Float → Type 0
Finite l = Each (λ y. finite y ≡ true) l

-- an order in which a level that beats another beats all that don't beat that one
module _ (beats : Float → Float → Bool)
    (asymmetric : (x y : Float) → finite x ≡ true → finite y ≡ true → beats x y ≡ true → beats y x ≡ false)
    (across : (g x y : Float) → finite g ≡ true → finite x ≡ true → finite y ≡ true → beats x g ≡ true → beats y g ≡ false → beats x y ≡ true) where
  -- x beats g, and so all that g beats and all that don't beat g
  module _ (g x : Float) (gf : finite g ≡ true) (xf : finite x ≡ true) (b : beats x g ≡ true) where
    over-beaten : {ys : List Float} → Finite ys → Each (λ y. beats g y ≡ true) ys → Each (λ y. beats x y ≡ true) ys
    over-beaten none none = none
    over-beaten (also {x = y} f fs) (also h p) = also (across g x y gf xf f b (asymmetric g y gf f h)) (over-beaten fs p)

    over-unbeaten : {ys : List Float} → Finite ys → Each (λ y. beats y g ≡ false) ys → Each (λ y. beats x y ≡ true) ys
    over-unbeaten none none = none
    over-unbeaten (also {x = y} f fs) (also h p) = also (across g x y gf xf f b h) (over-unbeaten fs p)

  abbrev stand : Float → Float → Float
  stand g x = cond (beats x g) x g

  one_more : (l : List Float) (g x : Float) → Finite l → finite x ≡ true → Stands beats l g → Stands beats (l ++ (x ∷ [])) (stand g x)
  one_more l g x fs xf s = by (beats x g) refl
    where
      parts : Finite s.earlier × Finite (g ∷ s.later)
      parts = each-parts s.earlier (subst Finite s.among fs)

      all-beaten : Finite s.earlier × Finite (g ∷ s.later) → beats x g ≡ true → Each (λ y. beats x y ≡ true) l
      all-beaten (e, also gf r) b =
          subst (Each (λ y. beats x y ≡ true)) (sym s.among)
          (each_append (over-beaten g x gf xf b e s.beaten) (also b (over-unbeaten g x gf xf b r s.unbeaten)))

      by : (t : Bool) → beats x g ≡ t → Stands beats (l ++ (x ∷ [])) (cond t x g)
      by true b = record { earlier = l; later = []; among = refl; beaten = all-beaten parts b; unbeaten = none }
      by false b =
          record {
            earlier = s.earlier;
            later = s.later ++ (x ∷ []);
            among = ap (λ (r : List Float). r ++ (x ∷ [])) s.among ∙ append_assoc s.earlier (g ∷ s.later) (x ∷ []);
            beaten = s.beaten;
            unbeaten = each_append s.unbeaten (also b none);
          }

  stands_on : (l : List Float) (g : Float) (xs : List Float) → Finite l → Finite xs → Stands beats l g → Stands beats (l ++ xs) (foldl stand g xs)
  stands_on l g [] fs none s = rw append-nil s
  stands_on l g (x ∷ xs) fs (also f r) s =
      subst (λ (m : List Float). Stands beats m (foldl stand (stand g x) xs)) (append_snoc l x xs)
      (stands_on (l ++ (x ∷ [])) (stand g x) xs (each_append fs (also f none)) r (one_more l g x fs f s))

  stands : (x : Float) (xs : List Float) → Finite (x ∷ xs) → Stands beats (x ∷ xs) (foldl stand x xs)
  stands x xs (also f r) =
      stands_on (x ∷ []) x xs (also f none) r (record { earlier = []; later = []; among = refl; beaten = none; unbeaten = none })

-- ---- one level at most stands

-- x stands at the head, y further on: y beats x, and doesn't
module _ (beats : Float → Float → Bool) where
  apart : (x y w : Float) (l e l' : List Float) → x ≡ w → l ≡ e ++ y ∷ l' → Each (λ z. beats z x ≡ false) l → Each (λ z. beats y z ≡ true) (w ∷ e) → ⊥
  apart x y w l e l' p q b (also k c) = by (each-parts e (subst (Each (λ z. beats z x ≡ false)) q b)).1
    where
      by : Each (λ z. beats z x ≡ false) (y ∷ l') → ⊥
      by (also h r) = false≢true (sym h ∙ ap (beats y) p ∙ k)

  only : (e l e' l' : List Float) (x y : Float) → e ++ x ∷ l ≡ e' ++ y ∷ l'
      → Each (λ z. beats x z ≡ true) e → Each (λ z. beats z x ≡ false) l → Each (λ z. beats y z ≡ true) e' → Each (λ z. beats z y ≡ false) l' → x ≡ y
  only [] l [] l' x y p a b c d = head-eq_of_cons-eq p
  only [] l (w ∷ e') l' x y p a b c d = absurd (apart x y w l e' l' (head-eq_of_cons-eq p) (tail-eq_of_cons-eq p) b c)
  only (z ∷ e) l [] l' x y p a b c d = absurd (apart y x z l' e l (sym (head-eq_of_cons-eq p)) (sym (tail-eq_of_cons-eq p)) d a)
  only (z ∷ e) l (w ∷ e') l' x y p (also h a) b (also k c) d = only e l e' l' x y (tail-eq_of_cons-eq p) a b c d

-- ---- what is shown of finite levels

shows : (xs : List Float) → Finite xs → (l : Levels) → screen_of xs ≡ Some l → (l.held ≡ length xs) × Stands above xs l.greatest × Stands under xs l.least
unfolding screen_of greater lesser
shows [] f l e = let z : ◌≡◌ {A = ℕ} 0 1 = cc in absurd (omega arith)
shows (x ∷ xs) f l e =
    let same : levels (length (x ∷ xs)) (foldl greater x xs) (foldl lesser x xs) ≡ l = cc in (
      ap (λ (k : Levels). k.held) (sym same),
      subst (Stands above (x ∷ xs)) (ap (λ (k : Levels). k.greatest) same) (stands above (λ a b h k p. lt_asymmetric b a k h p) above_across x xs f),
      subst (Stands under (x ∷ xs)) (ap (λ (k : Levels). k.least) same) (stands under lt_asymmetric under_across x xs f),
    )

counted-finite : (xs : List Float) → Finite (counted xs)
unfolding counted
counted-finite [] = none
counted-finite (x ∷ xs) = by (finite x) refl (counted-finite xs)
  where
    by : (b : Bool) → finite x ≡ b → Finite (counted xs) → Finite (cond b (x ∷ counted xs) (counted xs))
    by true e p = also e p
    by false e p = p

tail-finite : (xs : List Float) → Finite xs → Finite (tail xs)
unfolding tail
tail-finite xs p = (each-parts (take (length xs - 64) xs) (subst Finite (sym (take-append-drop (length xs - 64) xs)) p)).1

pub extremes_law : ExtremesLaw
extremes_law =
    record {
      shown = λ xs. shows (tail (counted xs)) (tail-finite (counted xs) (counted-finite xs));
      only = λ beats l x y s t. only beats s.earlier s.later t.earlier t.later x y (sym s.among ∙ t.among) s.beaten s.unbeaten t.beaten t.unbeaten;
    }
