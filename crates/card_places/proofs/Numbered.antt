-- The line of a number is the first that has it; there is none with another's. Assumes nothing.
use mathlib.Core.Path.{◌≡◌, refl, sym, ap, ◌∙◌}
use mathlib.Core.List.{[]}
use Prim.Native.Nat.{ℕ, zero, suc, ◌<◌}
use native.Mathlib.Nat.{le_of_suc-le-suc}
use native.Mathlib.Omega.{arith}
use lib.Dec.{eqb, ltb}
use lib.ListN.{length, get_or-eq_default}
use borrow.Author.Tests.{eq-eqb, ne_eqb, ltb-true, ltb-false}
use Rattle.fields.specs.Least.{least}
use Rattle.fields.proofs.Least.{by_test, least-found, least-all}
use Rattle.card.specs.Card.{Card, line_at}

module _ (card : Card) where
  -- beyond the last line there are no words
  beyond : (n : ℕ) → length card < n → line_at card n ≡ []
  unfolding line_at
  beyond zero h = refl
  beyond (suc i) h = get_or-eq_default card [] (le_of_suc-le-suc h)

  pub numbered : (n : ℕ) → line_at card (least (λ (i : ℕ). eqb i n) (length card)) ≡ line_at card n
  unfolding line_at
  numbered zero = ap (line_at card) (least-all (λ (i : ℕ). eqb i 0) (length card) (λ i h. ne_eqb (suc i) 0 (λ z. omega arith)))
  numbered (suc i) =
      by_test (ltb i (length card))
      (λ q. ap (line_at card) (least-found (λ (j : ℕ). eqb j (suc i)) i (length card) (none i) (eq-eqb (suc i) (suc i) refl) (ltb-true _ _ q)))
      (λ q. ap (line_at card) (least-all (λ (j : ℕ). eqb j (suc i)) (length card) (λ j h. ne_eqb (suc j) (suc i) (λ z. omega (arith, ltb-false _ _ q)))) ∙ sym (beyond (suc i) (omega (arith, ltb-false i (length card) q))))
    where
      none : (k : ℕ) → least (λ (j : ℕ). eqb j (suc k)) k ≡ 0
      none k = least-all (λ (j : ℕ). eqb j (suc k)) k (λ j h. ne_eqb (suc j) (suc k) (λ z. omega arith))
