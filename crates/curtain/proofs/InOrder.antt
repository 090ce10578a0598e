-- Pairs answered in order: what an accepted run has, who refuses a refused one, and that only the answers matter.
use Prim.Native.Nat.{ℕ, zero, suc, ◌+◌, ◌-◌, ◌<◌}
use mathlib.Core.Path.{◌≡◌, refl, sym, ap, ◌∙◌}
use mathlib.Core.Logic.{◌⊎◌, inl, inr, ⊎_elim}
use mathlib.Core.Bool.{Bool, true, false}
use mathlib.Core.List.{List, [], ◌∷◌, ◌++◌}
use native.Mathlib.Omega.{arith}
use native.Mathlib.Numerals.{add-one}
use native.Mathlib.Nat.{add-zero, add-suc}
use borrow.Author.Tests.{ltb-true, ltb-false}
use lib.Dec.{ltb}
use lib.ListN.{length, take, set, length-append, get_or-append}
use lib.Seq.{take-suc-set, get_or_at}
use lib.Ieee.{Float, nan}
use Rattle.floats.specs.Ops.{at}
use Rattle.answers.specs.Outcome.{Outcome, refused, accepted}
use Rattle.answers.proofs.Outcome.{same}
use Rattle.curtain.specs.Levels.{Taken, and_then, in_order}

-- only the answers to these pairs matter
pub in_order_same : {f g : ℕ → Outcome Float} → ((k : ℕ) → f k ≡ g k) → (before n : ℕ) → in_order f before n ≡ in_order g before n
unfolding in_order
in_order_same e before zero = refl
in_order_same e before (suc n) = rw (in_order_same e before n, e n)

-- a run that is accepted, or refused, by its last pair
accepted-by : (run : Outcome Taken) (pair : Outcome Float) {t : Taken} → and_then run pair ≡ accepted t
    → (s : Taken) × ((x : Float) × ((run ≡ accepted s) × (pair ≡ accepted x) × ((s.0 ++ (x ∷ []), s.1 + 1) ≡ t)))
unfolding and_then
accepted-by (refused n) pair h = let z : ◌≡◌ {A = ℕ} 0 1 = cc in absurd (omega arith)
accepted-by (accepted s) (refused n) h = let z : ◌≡◌ {A = ℕ} 0 1 = cc in absurd (omega arith)
accepted-by (accepted s) (accepted x) h = (s, (x, (refl, refl, same h)))

refused-by : (run : Outcome Taken) (pair : Outcome Float) {n : ℕ} → and_then run pair ≡ refused n
    → (run ≡ refused n) ⊎ ((s : Taken) × ((run ≡ accepted s) × (pair ≡ refused n)))
unfolding and_then
refused-by (refused m) pair h = inl h
refused-by (accepted s) (refused m) h = inr (s, (refl, cc))
refused-by (accepted s) (accepted x) h = let z : ◌≡◌ {A = ℕ} 0 1 = cc in absurd (omega arith)

module _ (f : ℕ → Outcome Float) (before : ℕ) where
  -- ---- the code's turns

  pub none_yet : in_order f before 0 ≡ accepted ([], before + 0)
  unfolding in_order
  none_yet = rw add-zero

  pub one_more : (k : ℕ) (l : List Float) {x : Float} → k < length l → in_order f before k ≡ accepted (take k l, before + k) → f k ≡ accepted x
      → in_order f before (k + 1) ≡ accepted (take (k + 1) (set l k x), before + (k + 1))
  unfolding in_order and_then
  one_more k l {x} h e p =
      let n : before + k + 1 ≡ before + (k + 1) = omega arith in
      rw (← n, add-one, e, p, take-suc-set l k x h)

  -- a refused pair refuses every run that has it
  module _ (k : ℕ) {t : Taken} {number : ℕ} (e : in_order f before k ≡ accepted t) (p : f k ≡ refused number) where
    refused-after : (d : ℕ) → in_order f before (suc k + d) ≡ refused number
    unfolding in_order and_then
    refused-after zero = rw (add-zero, e, p)
    refused-after (suc d) = rw (add-suc, refused-after d)

    pub refused-there : (n : ℕ) → k < n → in_order f before n ≡ refused number
    refused-there n h = let d : n ≡ suc k + (n - suc k) = omega arith in ap (in_order f before) d ∙ refused-after (n - suc k)

  -- ---- what the answers say

  -- one level more, and each pair still has its own
  each : (n : ℕ) (levels : List Float) {x : Float} → length levels ≡ n → ((k : ℕ) → k < n → f k ≡ accepted (at levels k)) → f n ≡ accepted x
      → (k : ℕ) → k < suc n → (b : Bool) → ltb k n ≡ b → f k ≡ accepted (at (levels ++ (x ∷ [])) k)
  each n levels {x} size had last k h true t = had k (ltb-true k n t) ∙ ap accepted (sym (get_or-append levels (x ∷ []) nan k (rw size (ltb-true k n t))))
  each n levels {x} size had last k h false t =
      let le = ltb-false k n t in
      let e : n ≡ k = omega arith in
      rw e at last ∙ ap accepted (sym (get_or_at levels x [] nan k (size ∙ e)))

  -- an accepted run has a level for each pair, that pair's own, and a reading for each
  pub in_order_levels : (n : ℕ) {t : Taken} → in_order f before n ≡ accepted t
      → (length t.0 ≡ n) × (t.1 ≡ before + n) × ((k : ℕ) → k < n → f k ≡ accepted (at t.0 k))
  unfolding in_order
  in_order_levels zero {t} e = rw (← same e) (refl, omega arith, λ k h. absurd (omega arith))
  in_order_levels (suc n) {t} e =
      let last = accepted-by (in_order f before n) (f n) e in
      let ih = in_order_levels n last.1.1.0 in
      rw (← last.1.1.2) (rw length-append (omega (arith, ih.0)), omega (arith, ih.1), λ k h. each n last.0.0 ih.0 ih.2 last.1.1.1 k h (ltb k n) refl)

  -- a refused run has a first refused pair, whose number it is
  pub in_order_refused : (n : ℕ) {number : ℕ} → in_order f before n ≡ refused number
      → (k : ℕ) × ((k < n) × (f k ≡ refused number) × ((j : ℕ) → j < k → (x : Float) × (f j ≡ accepted x)))
  unfolding in_order
  in_order_refused zero e = let z : ◌≡◌ {A = ℕ} 0 1 = cc in absurd (omega arith)
  in_order_refused (suc n) e =
      ⊎_elim
      (λ run. let ih = in_order_refused n run in (ih.0, (omega (arith, ih.1.0), ih.1.1, ih.1.2)))
      (λ last. (n, (omega arith, last.1.1, λ j h. (_, (in_order_levels n last.1.0).2 j h))))
      (refused-by (in_order f before n) (f n) e)
