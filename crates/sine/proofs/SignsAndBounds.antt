-- Laws of the sine and the cosine for every float: oddness and evenness, and bounds.
use mathlib.Core.Path.{◌≡◌, refl, sym, ap, ◌∙◌, subst}
use Prim.Native.Nat.{◌%◌, ℕ, zero, suc, ◌^◌, ◌≤◌}
use mathlib.Core.Bool.{Bool, true, false, not, cond, ◌||◌}
use native.Mathlib.Omega.{arith}
use lib.IntN.{pos}
use lib.Dec.{T, leb, eqb, le→leb}
use lib.Signed.{le_z_yes}
use lib.Ieee.{Float, nan, inf, fin, round, neg, le, is_nan}
use Rattle.std.specs.Float.{float_with_sign}
use Rattle.numeric.specs.Float.{mag, sign_bit, with_sign}
use Rattle.numeric.specs.Rounding.{F, truncated}
use Rattle.sine.specs.Sine.{UnitBounded, sine, cosine, sine_at, cosine_at, sine_units, cosine_units, in_domain, quarter, past, pick, next_term, sums, cut}
use Rattle.numeric.specs.Inner.{unsigned}
use Rattle.numeric.proofs.rounding.Laws.{F_mono, F-unsigned}
use Rattle.numeric.proofs.Signs.{neg-neg, neg-below, neg-turns, unsigned-mag, unsigned-number}
use Rattle.sine.proofs.Terms.{cut-le}

-- ---- the sine is odd, the cosine even
odd-by : (d s : Bool) (y : Float) → cond d (cond (not s) (neg y) y) nan ≡ neg (cond d (cond s (neg y) y) nan)
unfolding neg
odd-by true true y = sym (neg-neg y)
odd-by true false y = refl
odd-by false s y = refl

pub sine-odd : (x : Float) → sine (neg x) ≡ neg (sine x)
unfolding sine neg le float_with_sign
sine-odd nan = refl
sine-odd (inf s) = refl
sine-odd (fin s m e) =
    let n = truncated 40 (fin s m e) in
    odd-by (in_domain (fin s m e)) s (sine_at (quarter n) (past n))

pub cosine_even : (x : Float) → cosine (neg x) ≡ cosine x
unfolding cosine neg le float_with_sign
cosine_even nan = refl
cosine_even (inf s) = refl
cosine_even (fin s m e) = refl

pub sine-zero : sine (fin false 0 (pos 0)) ≡ fin false 0 (pos 0)
unfolding sine quarter past sine_at sine_units cosine_units cut sums next_term F neg round le float_with_sign
sine-zero = refl

-- ---- the quarters: the sine has S in the even ones and C in the odd ones, negated from the third on; the cosine the other way round, negated in the second and third
pub sine_at_even : (q t : ℕ) → q ≤ 3 → q % 2 ≡ 0 → let s = F (pos (sine_units t)) in sine_at q t ≡ cond (leb 2 q) (neg s) s
unfolding sine_at
sine_at_even zero t h e = refl
sine_at_even (suc zero) t h e = absurd (none e)
  where
    none : 1 % 2 ≡ 0 → ⊥
    none e = omega arith
sine_at_even (suc (suc zero)) t h e = refl
sine_at_even (suc (suc (suc q))) t h e = absurd (none q h e)
  where
    none : (q : ℕ) → suc (suc (suc q)) ≤ 3 → suc (suc (suc q)) % 2 ≡ 0 → ⊥
    none q h e = omega arith

pub sine_at_uneven : (q t : ℕ) → q ≤ 3 → (q % 2 ≡ 0 → ⊥) → let c = F (pos (cosine_units t)) in sine_at q t ≡ cond (leb 2 q) (neg c) c
unfolding sine_at
sine_at_uneven zero t h e = absurd (e refl)
sine_at_uneven (suc zero) t h e = refl
sine_at_uneven (suc (suc zero)) t h e = absurd (e refl)
sine_at_uneven (suc (suc (suc zero))) t h e = refl
sine_at_uneven (suc (suc (suc (suc q)))) t h e = absurd (none h)
  where
    none : suc (suc (suc (suc q))) ≤ 3 → ⊥
    none h = omega arith

pub cosine_at_even : (q t : ℕ) → q ≤ 3 → q % 2 ≡ 0 → let c = F (pos (cosine_units t)) in cosine_at q t ≡ cond (eqb q 1 || eqb q 2) (neg c) c
unfolding cosine_at
cosine_at_even zero t h e = refl
cosine_at_even (suc zero) t h e = absurd (none e)
  where
    none : 1 % 2 ≡ 0 → ⊥
    none e = omega arith
cosine_at_even (suc (suc zero)) t h e = refl
cosine_at_even (suc (suc (suc q))) t h e = absurd (none q h e)
  where
    none : (q : ℕ) → suc (suc (suc q)) ≤ 3 → suc (suc (suc q)) % 2 ≡ 0 → ⊥
    none q h e = omega arith

pub cosine_at_uneven : (q t : ℕ) → q ≤ 3 → (q % 2 ≡ 0 → ⊥) → let s = F (pos (sine_units t)) in cosine_at q t ≡ cond (eqb q 1 || eqb q 2) (neg s) s
unfolding cosine_at
cosine_at_uneven zero t h e = absurd (e refl)
cosine_at_uneven (suc zero) t h e = refl
cosine_at_uneven (suc (suc zero)) t h e = absurd (e refl)
cosine_at_uneven (suc (suc (suc zero))) t h e = refl
cosine_at_uneven (suc (suc (suc (suc q)))) t h e = absurd (none h)
  where
    none : suc (suc (suc (suc q))) ≤ 3 → ⊥
    none h = omega arith

-- a size is a number, and takes a sign as one
pub size_number : (y : Float) (w : ℕ) → y ≡ F (pos w) → T (not (is_nan y))
size_number y w e = subst (λ (b : Bool). T (not b)) (sym (ap is_nan e ∙ unsigned-number (F (pos w)) (F-unsigned w))) tt

pub size-signed : (y : Float) (w : ℕ) (b : Bool) → y ≡ F (pos w) → with_sign y b ≡ cond b (neg (F (pos w))) (F (pos w))
size-signed y w b e = let v : mag y ≡ F (pos w) = ap mag e ∙ unsigned-mag (F (pos w)) (F-unsigned w) in (λ i. cond b (neg (v i)) (v i))

-- ---- the bounds: where there is a value, it lies in -1..1
abbrev one : Float
one = fin false 1 (pos 0)

-- with its negation
abbrev Both : Float → Type 0
Both y = UnitBounded y × UnitBounded (neg y)

both-neg : (y : Float) → Both y → Both (neg y)
both-neg y h = (h.1, subst UnitBounded (sym (neg-neg y)) h.0)

-- a size of at most 1
bounded_size : (y : Float) → T (unsigned y) → T (le y one) → Both y
unfolding neg
bounded_size y u h = ((neg-below one y tt u, h), (neg-turns one y tt u h, neg-below y one u tt))

F-one : F (pos (2 ^ 30)) ≡ one
unfolding F round
F-one = refl

units_bounded : (w : ℕ) → w ≤ 2 ^ 30 → Both (F (pos w))
units_bounded w h = bounded_size (F (pos w)) (F-unsigned w) (subst (λ (x : Float). T (le (F (pos w)) x)) F-one (F_mono (pos w) (pos (2 ^ 30)) (le_z_yes (le→leb w (2 ^ 30) h))))

sine_units_bounded : (t : ℕ) → Both (F (pos (sine_units t)))
unfolding sine_units
sine_units_bounded t = units_bounded (sine_units t) (cut-le (sums t 2 7 t))

cosine_units_bounded : (t : ℕ) → Both (F (pos (cosine_units t)))
unfolding cosine_units
cosine_units_bounded t = units_bounded (cosine_units t) (cut-le (sums t 1 8 (2 ^ 30)))

pick-both : (q : ℕ) (a b c d : Float) → Both a → Both b → Both c → Both d → Both (pick q a b c d)
pick-both zero a b c d h k l m = h
pick-both (suc zero) a b c d h k l m = k
pick-both (suc (suc zero)) a b c d h k l m = l
pick-both (suc (suc (suc q))) a b c d h k l m = m

sine_at_bounded : (q t : ℕ) → Both (sine_at q t)
unfolding sine_at
sine_at_bounded q t = let s = sine_units_bounded t in let c = cosine_units_bounded t in pick-both q _ _ _ _ s c (both-neg _ s) (both-neg _ c)

cosine_at_bounded : (q t : ℕ) → Both (cosine_at q t)
unfolding cosine_at
cosine_at_bounded q t = let s = sine_units_bounded t in let c = cosine_units_bounded t in pick-both q _ _ _ _ c (both-neg _ s) (both-neg _ c) s

signed_bounded : (s : Bool) (y : Float) → Both y → UnitBounded (cond s (neg y) y)
signed_bounded true y h = h.1
signed_bounded false y h = h.0

or_nan : (d : Bool) (y : Float) → UnitBounded y → T (not (is_nan (cond d y nan))) → UnitBounded (cond d y nan)
unfolding is_nan
or_nan true y h n = h
or_nan false y h n = absurd n

pub sine_bounds : (x : Float) → T (not (is_nan (sine x))) → UnitBounded (sine x)
unfolding sine
sine_bounds x n =
    let k = truncated 40 x in
    let y = sine_at (quarter k) (past k) in
    or_nan (in_domain x) (cond (sign_bit x) (neg y) y) (signed_bounded (sign_bit x) y (sine_at_bounded (quarter k) (past k))) n

pub cosine_bounds : (x : Float) → T (not (is_nan (cosine x))) → UnitBounded (cosine x)
unfolding cosine
cosine_bounds x n = let k = truncated 40 x in or_nan (in_domain x) (cosine_at (quarter k) (past k)) (cosine_at_bounded (quarter k) (past k)).0 n
