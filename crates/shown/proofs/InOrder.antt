-- Answers in order: all accepted, one refused, and that only the answers below n matter. Assumes nothing.
use Prim.Native.Nat.{ℕ, zero, suc, ◌<◌}
use mathlib.Core.Path.{◌≡◌, refl}
use mathlib.Core.Logic.{⊎_elim}
use native.Mathlib.Nat.{eq-or-lt_of_le}
use native.Mathlib.Omega.{arith}
use Rattle.answers.specs.Outcome.{Outcome, refused, accepted}
use Rattle.request.specs.Request.{and_then}
use Rattle.shown.specs.InOrder.{up_to, in_order}

module _ {A : Type 0} (f : ℕ → Outcome A) where
  pub in_order_same : (g : ℕ → Outcome A) (n : ℕ) → ((k : ℕ) → k < n → f k ≡ g k) → in_order f n ≡ in_order g n
  unfolding in_order
  in_order_same g zero e = refl
  in_order_same g (suc n) e = rw (in_order_same g n (λ k h. e k (omega arith)), e n (omega arith))

  pub in_order_accepted : (g : ℕ → A) (n : ℕ) → ((k : ℕ) → k < n → f k ≡ accepted (g k)) → in_order f n ≡ accepted (up_to g n)
  unfolding in_order up_to and_then
  in_order_accepted g zero e = refl
  in_order_accepted g (suc n) e = rw (in_order_accepted g n (λ k h. e k (omega arith)), e n (omega arith))

  -- the first refusal, at k
  pub in_order_refused : (g : ℕ → A) (k : ℕ) {number : ℕ} → ((j : ℕ) → j < k → f j ≡ accepted (g j)) → f k ≡ refused number
      → (n : ℕ) → k < n → in_order f n ≡ refused number
  unfolding in_order and_then
  in_order_refused g k e r zero h = absurd (omega arith)
  in_order_refused g k e r (suc n) h =
      ⊎_elim
      (λ (s : suc k ≡ suc n). let t : n ≡ k = omega arith in rw (t, in_order_accepted g k e, r))
      (λ (l : suc k < suc n). rw (in_order_refused g k e r n (omega arith)))
      (eq-or-lt_of_le h)
