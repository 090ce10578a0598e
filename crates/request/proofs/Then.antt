-- A step and what follows it: the first step's outcome decides. Assumes nothing.
use Prim.Native.Nat.{ℕ}
use mathlib.Core.Path.{◌≡◌, refl, sym, ap, ◌∙◌}
use mathlib.Core.Logic.{◌⊎◌, inl, inr}
use Rattle.answers.specs.Outcome.{Outcome, refused, accepted}
use Rattle.request.specs.Request.{and_then}

pub then_refused : {A B : Type 0} (o : Outcome A) (next : A → Outcome B) (n : ℕ) → o ≡ refused n → and_then o next ≡ refused n
unfolding and_then
then_refused {A} {B} o next n e = ap (λ (p : Outcome A). and_then p next) e

pub then_accepted : {A B : Type 0} (o : Outcome A) (next : A → Outcome B) (x : A) → o ≡ accepted x → and_then o next ≡ next x
unfolding and_then
then_accepted {A} {B} o next x e = ap (λ (p : Outcome A). and_then p next) e

-- both steps accept
pub record Both {A B : Type 0} (o : Outcome A) (next : A → Outcome B) (y : B) : Type 0 where
  pub first : A
  pub accepts : o ≡ accepted first
  pub follows : next first ≡ accepted y

pub then_only : {A B : Type 0} (o : Outcome A) (next : A → Outcome B) {y : B} → and_then o next ≡ accepted y → Both o next y
unfolding and_then
then_only (refused n) next e = cc
then_only (accepted x) next e = record { first = x; accepts = refl; follows = e }

-- where the first step is known
pub then_follows : {A B : Type 0} (o : Outcome A) (next : A → Outcome B) {x : A} {y : B} → o ≡ accepted x → and_then o next ≡ accepted y → next x ≡ accepted y
then_follows o next {x} e h = sym (then_accepted o next x e) ∙ h

-- the first step refuses, or it accepts and the second refuses
pub then_refuses : {A B : Type 0} (o : Outcome A) (next : A → Outcome B) {n : ℕ} → and_then o next ≡ refused n → (o ≡ refused n) ⊎ ((x : A) × (next x ≡ refused n))
unfolding and_then
then_refuses (refused m) next {n} h = let e : m ≡ n = cc in inl (ap refused e)
then_refuses (accepted x) next h = inr (x, h)
