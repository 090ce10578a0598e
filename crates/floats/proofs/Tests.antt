-- What a test that holds says of its parts.
use Prim.Native.Nat.{ℕ, zero, suc, ◌≤◌, ◌<◌}
use mathlib.Core.Path.{◌≡◌, refl}
use mathlib.Core.Bool.{Bool, true, false, ◌&&◌, cond, false≢true}
use mathlib.Core.List.{List}
use mathlib.Core.Logic.{⊎_elim}
use native.Mathlib.Nat.{eq-or-lt_of_le}
use native.Mathlib.Omega.{arith}
use lib.ListN.{length, get_or}
use lib.Ieee.{Float, nan}
use lib.Ieee.Scale.{finite}
use Rattle.floats.specs.Ranges.{finite_to, all_finite}

pub both : (p q : Bool) → (p && q) ≡ true → (p ≡ true) × (q ≡ true)
both true q h = (refl, h)
both false q h = absurd (false≢true h)

-- of numbers tried in turn none was given: not the first, and none of the rest
pub next : (b : Bool) (n rest : ℕ) → cond b (suc n) rest ≡ 0 → (b ≡ false) × (rest ≡ 0)
next true n rest h = let z : ◌≡◌ {A = ℕ} 0 1 = cc in absurd (omega arith)
next false n rest h = (refl, h)

finite-to : (l : List Float) (n v : ℕ) → finite_to l n ≡ true → v < n → finite (get_or l v nan) ≡ true
unfolding finite_to
finite-to l zero v h i = absurd (omega arith)
finite-to l (suc n) v h i =
    let p = both (finite_to l n) (finite (get_or l n nan)) h in
    let le : v ≤ n = omega arith in
    ⊎_elim (λ (e : v ≡ n). rw e p.1) (λ (lt : v < n). finite-to l n v p.0 lt) (eq-or-lt_of_le le)

pub finite-at : (l : List Float) (v : ℕ) → all_finite l ≡ true → v < length l → finite (get_or l v nan) ≡ true
unfolding all_finite
finite-at l v h i = finite-to l (length l) v h i
