-- The number that is told, as a ladder: whether some slot breaks limit 2, then 3, and so on.
use mathlib.Core.Path.{◌≡◌, refl, ◌∙◌}
use Prim.Native.Nat.{ℕ, zero, suc, ◌+◌}
use native.Mathlib.Omega.{arith}
use mathlib.Core.Bool.{Bool, true, false, cond, not, ◌&&◌, ◌||◌}
use mathlib.Core.List.{List}
use lib.ListN.{get_or}
use lib.Ieee.{Float, nan}
use lib.Ieee.Scale.{finite}
use Rattle.floats.specs.Ranges.{finite_to}
use Rattle.std.proofs.Common.{Some}
use Rattle.slots.specs.Told.{Breaks, Why, lowest, or_else, numbers_from, told, number_of}

-- one of the k tests from s on holds
unfoldable pub some : (ℕ → Bool) → ℕ → ℕ → Bool
some test zero s = false
some test (suc k) s = cond (test s) true (some test k (suc s))

module _ (breaks : Breaks) where
  number_of_lowest : (n k s : ℕ) (rest : Why) → number_of (or_else (lowest breaks n k s) rest) ≡ cond (some (breaks n) k s) n (number_of rest)
  unfolding lowest some or_else number_of
  number_of_lowest n zero s rest = refl
  number_of_lowest n (suc k) s rest = go (breaks n s) (number_of_lowest n k (suc s) rest)
    where
      go : (b : Bool) → number_of (or_else (lowest breaks n k (suc s)) rest) ≡ cond (some (breaks n) k (suc s)) n (number_of rest)
          → number_of (or_else (cond b (Some (n, s)) (lowest breaks n k (suc s))) rest) ≡ cond (cond b true (some (breaks n) k (suc s))) n (number_of rest)
      go true later = refl
      go false later = later

  abbrev pub some_breaks : ℕ → Bool
  some_breaks n = some (breaks n) 20 0

  pub told-number : number_of (told breaks) ≡ cond (some_breaks 2) 2 (cond (some_breaks 3) 3 (cond (some_breaks 4) 4 (cond (some_breaks 5) 5 (cond (some_breaks 6) 6 (cond (some_breaks 7) 7 0)))))
  unfolding told numbers_from number_of
  told-number = simp number_of_lowest

-- ---- a limit that one slot can break, or two: broken unless both keep it

pub one-slot : (a : Bool) → cond (not a) true false ≡ not a
one-slot true = refl
one-slot false = refl

pub two-slots : (a b : Bool) → cond (not a) true (cond (not b) true false) ≡ not (a && b)
two-slots true b = one-slot b
two-slots false b = refl

-- ---- limit 2: some slot isn't finite

module _ (test : ℕ → Bool) where
  -- the last of the tests by itself
  some-last : (k s : ℕ) → some test (suc k) s ≡ (some test k s || test (s + k))
  unfolding some
  some-last zero s = let e : s + 0 ≡ s = omega arith in rw e (go (test s))
    where
      go : (b : Bool) → cond b true false ≡ b
      go true = refl
      go false = refl
  some-last (suc k) s = let e : s + suc k ≡ suc s + k = omega arith in rw e (go (test s) (some-last k (suc s)))
    where
      go : (b : Bool) → some test (suc k) (suc s) ≡ (some test k (suc s) || test (suc s + k))
          → cond b true (some test (suc k) (suc s)) ≡ (cond b true (some test k (suc s)) || test (suc s + k))
      go true later = refl
      go false later = later

pub some-not-finite : (p : List Float) (k : ℕ) → some (λ (s : ℕ). not (finite (get_or p s nan))) k 0 ≡ not (finite_to p k)
unfolding some finite_to
some-not-finite p zero = refl
some-not-finite p (suc k) =
    let e : 0 + k ≡ k = omega arith in
    some-last (λ (s : ℕ). not (finite (get_or p s nan))) k 0 ∙ (rw (some-not-finite p k, e) (go (finite_to p k) (finite (get_or p k nan))))
  where
    go : (a b : Bool) → (not a || not b) ≡ not (a && b)
    go true b = refl
    go false b = refl
