-- The numbers of answers, one after the other: one more, and where the first refusal stops them. Assumes nothing.
use Prim.Native.Nat.{ℕ, zero, suc, ◌≤◌, ◌<◌}
use mathlib.Core.Path.{◌≡◌, refl, sym, ap, ◌∙◌}
use mathlib.Core.List.{List, [], ◌∷◌, ◌++◌}
use mathlib.Core.Logic.{⊎_elim}
use native.Mathlib.Nat.{eq-or-lt_of_le}
use native.Mathlib.Omega.{arith}
use lib.ListN.{length, take, length-append, get_or-append}
use lib.Seq.{take-suc, take_all, get_or_at}
use lib.Ieee.{Float, nan}
use Rattle.floats.specs.Ops.{at}
use Rattle.floats.proofs.Filled.{filled-length}
use Rattle.answers.specs.Outcome.{Outcome, refused, accepted}
use Rattle.answers.proofs.Outcome.{same}
use Rattle.answers.specs.declared.Kind.{Kind}
use Rattle.plate_row.specs.Row.{row_of, numbers_of}
use Rattle.antenna_laws.proofs.RowGains.{accepted_row_gains}
use Rattle.request.specs.declared.Request.{Request}
use Rattle.request.specs.Request.{and_then}
use Rattle.planet_vertical.specs.Directions.{horizontal_gain, number_of, numbers_to}
use Rattle.request.proofs.Then.{then_only}

module _ (gain : ℕ → Outcome (Kind × Float)) (n : ℕ) {xs : List Float} (before : numbers_to gain n ≡ accepted xs) where
  pub numbers_more : {x : Float} → number_of (gain n) ≡ accepted x → numbers_to gain (suc n) ≡ accepted (xs ++ (x ∷ []))
  unfolding numbers_to and_then
  numbers_more e = rw (before, e)

  pub numbers_stop : {k : ℕ} → number_of (gain n) ≡ refused k → (m : ℕ) → n < m → numbers_to gain m ≡ refused k
  unfolding numbers_to and_then
  numbers_stop e zero h = absurd (omega arith)
  numbers_stop e (suc m) h = ⊎_elim (λ (f : n ≡ m). rw (← f, before, e)) (λ (l : n < m). rw (numbers_stop e m l)) (eq-or-lt_of_le (omega arith))

-- ---- all of them

number-gain : (gain : Outcome (Kind × Float)) {x : Float} → number_of gain ≡ accepted x → (k : Kind) × (gain ≡ accepted (k, x))
unfolding number_of and_then
number-gain (refused n) h = let z : ◌≡◌ {A = ℕ} 0 1 = cc in absurd (omega arith)
number-gain (accepted g) h = (g.0, ap (λ (y : Float). accepted (g.0, y)) (same h))

module _ (gain : ℕ → Outcome (Kind × Float)) where
  -- answers whose numbers are those of a list
  numbers-taken : (xs : List Float) (n : ℕ) → n ≤ length xs → ((v : ℕ) → v < n → number_of (gain v) ≡ accepted (at xs v)) → numbers_to gain n ≡ accepted (take n xs)
  unfolding numbers_to
  numbers-taken xs zero h f = refl
  numbers-taken xs (suc n) h f =
      rw (take-suc xs n nan h) (numbers_more gain n (numbers-taken xs n (omega arith) (λ v l. f v (omega arith))) (f n (omega arith)))

  pub numbers_of_list : (xs : List Float) (n : ℕ) → n ≡ length xs → ((v : ℕ) → v < n → number_of (gain v) ≡ accepted (at xs v)) → numbers_to gain n ≡ accepted xs
  numbers_of_list xs n e f = numbers-taken xs n (omega arith) f ∙ ap accepted (take_all n xs (omega arith))

  -- one number for each answer
  pub numbers-length : (n : ℕ) {xs : List Float} → numbers_to gain n ≡ accepted xs → length xs ≡ n
  unfolding numbers_to
  numbers-length zero h = rw (← same h) refl
  numbers-length (suc n) h =
      let before = then_only _ _ h in
      let last = then_only _ _ before.follows in
      rw (← same last.follows, length-append) (omega (arith, numbers-length n before.accepts))

  -- each is its answer's
  pub numbers-at : (n : ℕ) {xs : List Float} → numbers_to gain n ≡ accepted xs → (v : ℕ) → v < n → (k : Kind) × (gain v ≡ accepted (k, at xs v))
  unfolding numbers_to
  numbers-at zero h v i = absurd (omega arith)
  numbers-at (suc n) h v i =
      let before = then_only _ _ h in
      let last = then_only _ _ before.follows in
      let xs = before.first in
      let x = last.first in
      let l = numbers-length n before.accepts in
      let le : v ≤ n = omega arith in
      rw (← same last.follows)
      (⊎_elim
      (λ (e : v ≡ n). rw (e, get_or_at xs x [] nan n l) (number-gain (gain n) last.accepts))
      (λ (lt : v < n). rw (get_or-append xs (x ∷ []) nan v (omega arith)) (numbers-at n before.accepts v lt))
      (eq-or-lt_of_le le))

-- the numbers of an accepted row are `ccirgain`'s
pub row-numbers : (q : Request) (t : List Float) {x : Float} → row_of q.antenna t q.elevation q.giso 360 ≡ accepted x
    → numbers_to (horizontal_gain q t) 360 ≡ accepted (numbers_of q.antenna t q.elevation q.giso)
unfolding number_of and_then numbers_of
row-numbers q t h =
    let a = q.antenna in
    let u = q.elevation in
    numbers_of_list (horizontal_gain q t) (numbers_of a t u q.giso) 360 (sym (filled-length _ 360 360)) λ v l. rw (accepted_row_gains a t u q.giso h v l)
