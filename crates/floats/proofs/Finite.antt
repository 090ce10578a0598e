-- A finite result has finite operands.
use mathlib.Core.Path.{◌≡◌, refl, sym, ◌∙◌}
use mathlib.Core.Bool.{Bool, true, false, cond, beq, false≢true}
use lib.Dec.{eqb}
use lib.Ieee.{Float, nan, inf, fin, Format, unlike, neg, add, sub, mul}
use lib.Ieee.Scale.{finite}

pub finite-neg : (x : Float) → finite (neg x) ≡ finite x
unfolding neg
finite-neg nan = refl
finite-neg (inf s) = refl
finite-neg (fin s m e) = refl

-- both operands of an operation
abbrev Both : Float → Float → Type 0
Both x y = (finite x ≡ true) × (finite y ≡ true)

neither : (b s : Bool) {A : Type 0} → finite (cond b nan (inf s)) ≡ true → A
neither true s h = absurd (false≢true h)
neither false s h = absurd (false≢true h)

nor : (b s : Bool) {A : Type 0} → finite (cond b (inf s) nan) ≡ true → A
nor true s h = absurd (false≢true h)
nor false s h = absurd (false≢true h)

pub finite-add : (f : Format) (x y : Float) → finite (add f x y) ≡ true → Both x y
unfolding add
finite-add f nan y h = absurd (false≢true h)
finite-add f (inf s) nan h = absurd (false≢true h)
finite-add f (inf s) (inf t) h = nor (beq s t) s h
finite-add f (inf s) (fin t n d) h = absurd (false≢true h)
finite-add f (fin s m e) nan h = absurd (false≢true h)
finite-add f (fin s m e) (inf t) h = absurd (false≢true h)
finite-add f (fin s m e) (fin t n d) h = (refl, refl)

pub finite-sub : (f : Format) (x y : Float) → finite (sub f x y) ≡ true → Both x y
unfolding sub
finite-sub f x y h = let both = finite-add f x (neg y) h in (both.0, sym (finite-neg y) ∙ both.1)

pub finite-mul : (f : Format) (x y : Float) → finite (mul f x y) ≡ true → Both x y
unfolding mul
finite-mul f nan y h = absurd (false≢true h)
finite-mul f (inf s) nan h = absurd (false≢true h)
finite-mul f (inf s) (inf t) h = absurd (false≢true h)
finite-mul f (inf s) (fin t n d) h = neither (eqb n 0) (unlike s t) h
finite-mul f (fin s m e) nan h = absurd (false≢true h)
finite-mul f (fin s m e) (inf t) h = neither (eqb m 0) (unlike s t) h
finite-mul f (fin s m e) (fin t n d) h = (refl, refl)
