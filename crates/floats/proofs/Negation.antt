-- Negation, through products and roundings, for all values: nothing is asked of the operands.
use mathlib.Core.Path.{◌≡◌, refl, ap, ◌∙◌}
use mathlib.Core.Bool.{Bool, true, false, not, cond}
use Prim.Native.Nat.{ℕ, zero, suc, ◌+◌, ◌*◌, ◌^◌}
use lib.Dec.{ltb, eqb}
use lib.Ieee.{Float, nan, inf, fin, Format, low, emax, prec, unlike, odd, units, round, neg, mul}
use Rattle.numeric.proofs.Laws.{neg-neg}

-- ---- signs

not-unlike-left : (s t : Bool) → unlike (not s) t ≡ not (unlike s t)
not-unlike-left true true = refl
not-unlike-left true false = refl
not-unlike-left false true = refl
not-unlike-left false false = refl

not-unlike-right : (s t : Bool) → unlike s (not t) ≡ not (unlike s t)
not-unlike-right true true = refl
not-unlike-right true false = refl
not-unlike-right false true = refl
not-unlike-right false false = refl

neg-cond : (b : Bool) (x y : Float) → cond b (neg x) (neg y) ≡ neg (cond b x y)
neg-cond true x y = refl
neg-cond false x y = refl

-- ---- rounding

odd-neg : (d : ℕ) (s : Bool) (q k l : ℕ) → odd d (not s) q k l ≡ neg (odd d s q k l)
unfolding odd neg
odd-neg d s zero k l = refl
odd-neg d s (suc q) k l = refl

units-neg : (f : Format) (s : Bool) (q k : ℕ) → units f (not s) q k ≡ neg (units f s q k)
unfolding units neg
units-neg f s q k = rw odd-neg (neg-cond (ltb (q * 2 ^ k) (2 ^ (low f + suc (emax f)))) (odd (suc (prec f)) s q k (low f)) (inf s))

pub round-neg : (f : Format) (s : Bool) (n d : ℕ) → round f (not s) n d ≡ neg (round f s n d)
unfolding round
round-neg f s n d = units-neg f s _ _

-- a product's cases: the same test on both sides, and the sign flipped
nan_or_inf : (b s : Bool) → cond b nan (inf (not s)) ≡ neg (cond b nan (inf s))
unfolding neg
nan_or_inf true s = refl
nan_or_inf false s = refl

-- ---- products

pub mul-neg-left : (f : Format) (x y : Float) → mul f (neg x) y ≡ neg (mul f x y)
unfolding mul neg
mul-neg-left f nan y = refl
mul-neg-left f (inf s) nan = refl
mul-neg-left f (inf s) (inf t) = ap inf (not-unlike-left s t)
mul-neg-left f (inf s) (fin t n d) = rw not-unlike-left (nan_or_inf (eqb n 0) (unlike s t))
mul-neg-left f (fin s m e) nan = refl
mul-neg-left f (fin s m e) (inf t) = rw not-unlike-left (nan_or_inf (eqb m 0) (unlike s t))
mul-neg-left f (fin s m e) (fin t n d) = rw not-unlike-left (round-neg f (unlike s t) _ _)

pub mul-neg-right : (f : Format) (x y : Float) → mul f x (neg y) ≡ neg (mul f x y)
unfolding mul neg
mul-neg-right f nan nan = refl
mul-neg-right f nan (inf t) = refl
mul-neg-right f nan (fin t n d) = refl
mul-neg-right f (inf s) nan = refl
mul-neg-right f (inf s) (inf t) = ap inf (not-unlike-right s t)
mul-neg-right f (inf s) (fin t n d) = rw not-unlike-right (nan_or_inf (eqb n 0) (unlike s t))
mul-neg-right f (fin s m e) nan = refl
mul-neg-right f (fin s m e) (inf t) = rw not-unlike-right (nan_or_inf (eqb m 0) (unlike s t))
mul-neg-right f (fin s m e) (fin t n d) = rw not-unlike-right (round-neg f (unlike s t) _ _)

pub mul-neg-neg : (f : Format) (x y : Float) → mul f (neg x) (neg y) ≡ mul f x y
mul-neg-neg f x y = mul-neg-left f x (neg y) ∙ ap neg (mul-neg-right f x y) ∙ neg-neg (mul f x y)
