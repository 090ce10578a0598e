-- `least`: what it finds is the first number that passes the test, and it finds none only where there is none. Assumes nothing.
use mathlib.Core.Path.{◌≡◌, refl, sym, subst, ◌∙◌}
use mathlib.Core.Logic.{⊎_elim, inl, inr}
use mathlib.Core.Bool.{Bool, true, false, cond, false≢true}
use Prim.Native.Nat.{ℕ, zero, suc, ◌+◌, ◌≤◌, ◌<◌}
use native.Mathlib.Nat.{eq-or-lt_of_le, le_of_suc-le-suc, le_refl}
use native.Mathlib.Omega.{arith}
use Rattle.fields.specs.Least.{or_else, least, FirstOf}
use native.Mathlib.Numerals.{add-one}

pub by_test : {P : Type 0} (t : Bool) → (t ≡ true → P) → (t ≡ false → P) → P
by_test true p q = p refl
by_test false p q = q refl

module _ (test : ℕ → Bool) where
  -- ---- a search, one number after the other

  pub least_more : (i : ℕ) → least test i ≡ 0 → test (suc i) ≡ false → least test (suc i) ≡ 0
  unfolding least or_else
  least_more i e t = rw (e, t)

  least_here : (i : ℕ) → least test i ≡ 0 → test (suc i) ≡ true → least test (suc i) ≡ suc i
  unfolding least or_else
  least_here i e t = rw (e, t)

  least_stays : (n k : ℕ) → least test n ≡ suc k → least test (suc n) ≡ suc k
  unfolding least or_else
  least_stays n k e = rw e

  pub least-found : (i n : ℕ) → least test i ≡ 0 → test (suc i) ≡ true → i < n → least test n ≡ suc i
  least-found i zero e t h = absurd (omega arith)
  least-found i (suc n) e t h =
      ⊎_elim
      (λ (q : i ≡ n). rw q (rw q at (least_here i e t)))
      (λ (l : i < n). least_stays n i (least-found i n e t l))
      (eq-or-lt_of_le (le_of_suc-le-suc h))

  -- ---- what it finds

  -- by cases on what the numbers before the last give
  module _ (P : ℕ → Type 0) (n : ℕ) where
    by_last : (least test n ≡ 0 → test (suc n) ≡ true → P (suc n)) → (least test n ≡ 0 → test (suc n) ≡ false → P 0)
        → ((k : ℕ) → least test n ≡ suc k → P (suc k)) → P (least test (suc n))
    unfolding least or_else
    by_last here none before = go (least test n) (test (suc n)) refl refl
      where
        go : (a : ℕ) (b : Bool) → least test n ≡ a → test (suc n) ≡ b → P (or_else a (cond b (suc n) 0))
        go zero true e t = here e t
        go zero false e t = none e t
        go (suc k) b e t = before k e

  pub least-le : (n : ℕ) → least test n ≤ n
  unfolding least
  least-le zero = le_refl 0
  least-le (suc n) = by_last (λ (r : ℕ). r ≤ suc n) n (λ e t. le_refl (suc n)) (λ e t. omega arith) (λ k e. omega (arith, least-le n))

  -- what is found passes
  pub least_passes : (n : ℕ) → 0 < least test n → test (least test n) ≡ true
  unfolding least
  least_passes zero h = absurd (omega arith)
  least_passes (suc n) h = by_last (λ (r : ℕ). 0 < r → test r ≡ true) n (λ e t l. t) (λ e t l. absurd (omega arith)) (λ k e l. rw e at (least_passes n (omega arith))) h

  -- none before it passes: where none is found, none of them
  pub least-none : (n : ℕ) → least test n ≡ 0 → (i : ℕ) → i < n → test (suc i) ≡ false
  unfolding least
  least-none zero e i h = absurd (omega arith)
  least-none (suc n) e i h = by_last (λ (r : ℕ). r ≡ 0 → test (suc i) ≡ false) n (λ p t q. absurd (omega arith)) (λ p t q. ⊎_elim (λ (s : i ≡ n). rw s t) (λ (l : i < n). least-none n p i l) (eq-or-lt_of_le (le_of_suc-le-suc h))) (λ k p q. absurd (omega arith)) e

  -- where some number passes, one is found, and not after it
  pub least_first : (n i : ℕ) → test (suc i) ≡ true → i < n → (0 < least test n) × (least test n ≤ suc i)
  least_first zero i t h = absurd (omega arith)
  least_first (suc n) i t h =
      ⊎_elim
      (λ (s : i ≡ n). by_last Good n (λ e b. (omega arith, omega arith)) (λ e b. absurd (false≢true (sym b ∙ rw s at t))) (λ k e. (omega arith, omega (arith, least-le n))))
      (λ (l : i < n). by_last Good n (λ e b. absurd (false≢true (sym (least-none n e i l) ∙ t))) (λ e b. absurd (false≢true (sym (least-none n e i l) ∙ t))) (λ k e. rw e at (least_first n i t l)))
      (eq-or-lt_of_le (le_of_suc-le-suc h))
    where
      Good : ℕ → Type 0
      Good r = (0 < r) × (r ≤ suc i)

  -- where none passes, none is found
  pub least-all : (n : ℕ) → ((i : ℕ) → i < n → test (suc i) ≡ false) → least test n ≡ 0
  unfolding least
  least-all zero none = refl
  least-all (suc n) none = least_more n (least-all n (λ i h. none i (omega arith))) (none n (omega arith))

-- what such a search of the code answers, where the calls of its test return what `test` is
pub least_is : (test : ℕ → Bool) (Returns : ℕ → Bool → Type 0) (n r : ℕ) → ((i : ℕ) (b : Bool) → i < n → Returns (i + 1) b → b ≡ test (suc i)) → FirstOf Returns n r → r ≡ least test n
least_is test Returns n zero same f = sym (least-all test n (λ i h. sym (same i false h (f.before i h (inl refl)))))
least_is test Returns n (suc k) same f =
    let inside : k < n = omega (arith, f.within) in
    let none : least test k ≡ 0 = least-all test k (λ i h. sym (same i false (omega arith) (f.before i (omega arith) (inr (omega arith))))) in
    let here : Returns (k + 1) true = subst (λ m. Returns m true) (sym (add-one k)) (f.here (omega arith)) in
    sym (least-found test k n none (sym (same k true inside here)) inside)
