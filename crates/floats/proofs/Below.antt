-- A test computed at each of the numbers below n, and what it says of one of them.
use mathlib.Core.Path.{◌≡◌, refl, sym, subst}
use mathlib.Core.Bool.{Bool, true, false}
use Prim.Native.Nat.{ℕ, zero, suc, ◌<◌}
use native.Mathlib.Nat.{not-suc-le-zero, le_of_suc-le-suc}
use borrow.Author.Tests.{eqb-true, eqb-false}
use lib.Arith.{lt_of_le-ne}
use lib.Dec.{T, eqb}

abbrev both : Bool → Bool → Bool
both true b = b
both false b = false

abbrev pub all : (ℕ → Bool) → ℕ → Bool
all f zero = true
all f (suc n) = both (f n) (all f n)

both_left : (a b : Bool) → T (both a b) → T a
both_left true b t = tt
both_left false b t = t

both_right : (a b : Bool) → T (both a b) → T b
both_right true b t = t
both_right false b t = absurd t

pub all-at : (f : ℕ → Bool) (n : ℕ) → T (all f n) → (k : ℕ) → k < n → T (f k)
all-at f zero t k h = absurd (not-suc-le-zero h)
all-at f (suc n) t k h = go (eqb k n) refl (all-at f n (both_right (f n) (all f n) t) k)
  where
    go : (e : Bool) → eqb k n ≡ e → (k < n → T (f k)) → T (f k)
    go true e r = subst (λ (m : ℕ). T (f m)) (sym (eqb-true k n e)) (both_left (f n) (all f n) t)
    go false e r = r (lt_of_le-ne (le_of_suc-le-suc h) (eqb-false k n e))
