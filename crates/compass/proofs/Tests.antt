-- A rule at every number below n, by one test that antt computes. Assumes nothing.
use mathlib.Core.Path.{◌≡◌}
use mathlib.Core.Logic.{⊎_elim}
use mathlib.Core.Bool.{Bool, true, false, ◌&&◌}
use Prim.Native.Nat.{ℕ, zero, suc, ◌<◌}
use native.Mathlib.Nat.{le_of_suc-le-suc, eq-or-lt_of_le, not-suc-le-zero}
use lib.Dec.{T}

unfoldable pub all : (ℕ → Bool) → ℕ → Bool
all f zero = true
all f (suc n) = f n && all f n

pub left : (a b : Bool) → T (a && b) → T a
left true b t = tt
left false b t = t

pub right : (a b : Bool) → T (a && b) → T b
right true b t = t
right false b t = absurd t

pub at : (f : ℕ → Bool) (n : ℕ) → T (all f n) → (i : ℕ) → i < n → T (f i)
unfolding all
at f zero t i h = absurd (not-suc-le-zero h)
at f (suc n) t i h =
    ⊎_elim (λ (e : i ≡ n). rw e (left (f n) (all f n) t)) (at f n (right (f n) (all f n) t) i)
    (eq-or-lt_of_le (le_of_suc-le-suc h))
