-- Finite floats, and laws of model's `all_finite`. Assumes nothing.
use mathlib.Core.Path.{◌≡◌, refl, sym, ap, ◌∙◌, subst}
use Prim.Native.Nat.{ℕ, zero, suc, ◌+◌, ◌-◌, ◌<◌}
use native.Mathlib.Nat.{add-zero, add-suc}
use native.Mathlib.Omega.{arith}
use mathlib.Core.Bool.{Bool, true, false, not, ◌&&◌, and_assoc, and_comm, and-false}
use mathlib.Core.List.{List, [], ◌∷◌, ◌++◌}
use lib.ListN.{length, get_or}
use lib.Dec.{T}
use lib.Ieee.{Float, nan, inf, fin, is_nan}
use lib.Ieee.Scale.{finite}
use Rattle.floats.specs.Ranges.{finite_to, all_finite}

finite-not-nan : (v : Float) → finite v ≡ true → is_nan v ≡ false
unfolding is_nan
finite-not-nan nan h = absurd (subst T (sym h) tt)
finite-not-nan (inf s) h = refl
finite-not-nan (fin s m e) h = refl

pub finite-value : (v : Float) → finite v ≡ true → T (not (is_nan v))
finite-value v h = subst (λ (b : Bool). T (not b)) (sym (finite-not-nan v h)) tt

finite_to_cons : (x : Float) (xs : List Float) (n : ℕ) → finite_to (x ∷ xs) (suc n) ≡ (finite x && finite_to xs n)
unfolding finite_to
finite_to_cons x xs zero = and_comm true (finite x)
finite_to_cons x xs (suc n) =
    let last = finite (get_or xs n nan) in
    ap (λ (b : Bool). b && last) (finite_to_cons x xs n) ∙ and_assoc (finite x) (finite_to xs n) last

pub all_finite_cons : (x : Float) (xs : List Float) → all_finite (x ∷ xs) ≡ (finite x && all_finite xs)
unfolding all_finite
all_finite_cons x xs = finite_to_cons x xs (length xs)

pub all_finite_append : (xs ys : List Float) → all_finite (xs ++ ys) ≡ (all_finite xs && all_finite ys)
unfolding all_finite finite_to
all_finite_append [] ys = refl
all_finite_append (x ∷ xs) ys =
    all_finite_cons x (xs ++ ys)
    ∙ ap (λ (b : Bool). finite x && b) (all_finite_append xs ys)
    ∙ sym (and_assoc (finite x) (all_finite xs) (all_finite ys))
    ∙ ap (λ (b : Bool). b && all_finite ys) (sym (all_finite_cons x xs))

-- the first k are finite, and then one more, or not
pub finite-more : (l : List Float) (k : ℕ) → finite_to l k ≡ true → finite (get_or l k nan) ≡ true → finite_to l (suc k) ≡ true
unfolding finite_to
finite-more l k p q = rw (p, q)

none_above : (l : List Float) (k j : ℕ) → finite (get_or l k nan) ≡ false → finite_to l (suc (k + j)) ≡ false
unfolding finite_to
none_above l k zero q = rw (add-zero, q, and-false)
none_above l k (suc j) q = ap (λ (i : ℕ). finite_to l (suc i)) (add-suc k j) ∙ ap (λ (b : Bool). b && finite (get_or l (suc (k + j)) nan)) (none_above l k j q)

pub finite-none : (l : List Float) (k : ℕ) → k < length l → finite (get_or l k nan) ≡ false → all_finite l ≡ false
unfolding all_finite
finite-none l k h q =
    let e : length l ≡ suc (k + (length l - suc k)) = omega arith in
    ap (finite_to l) e ∙ none_above l k (length l - suc k) q
