-- Accepted answers in order: how many they are, each in its place, and in span. Assumes nothing.
use Prim.Native.Nat.{ℕ, zero, suc, ◌≤◌, ◌<◌}
use mathlib.Core.Path.{◌≡◌, refl, sym, ap, ◌∙◌}
use mathlib.Core.Bool.{Bool, true, false, cond}
use mathlib.Core.List.{List, [], ◌∷◌}
use mathlib.Core.Logic.{⊎_elim}
use native.Mathlib.Nat.{eq-or-lt_of_le}
use native.Mathlib.Omega.{arith}
use lib.ListN.{length, get_or, length-append, get_or-append}
use lib.Seq.{get_or_at}
use lib.Ieee.{Float}
use Rattle.answers.specs.Outcome.{Outcome, refused, accepted}
use Rattle.answers.specs.Refusals.{SPAN}
use Rattle.answers.proofs.Outcome.{same}
use Rattle.answers.specs.declared.Kind.{Kind}
use Rattle.hundredths.specs.Hundredths.{in_span, hundredths_of}
use Rattle.request.specs.Request.{and_then}
use Rattle.shown.specs.InOrder.{in_order}
use Rattle.shown.specs.Plate.{Entry, in_hundredths, plate_of}
use Rattle.shown_laws.specs.ShownLaw.{Spanned}
use Rattle.request.proofs.Then.{then_only}

module _ {A : Type 0} (f : ℕ → Outcome A) where
  in_order_length : (n : ℕ) {xs : List A} → in_order f n ≡ accepted xs → length xs ≡ n
  unfolding in_order
  in_order_length zero h = rw (← same h) refl
  in_order_length (suc n) h =
      let before = then_only _ _ h in
      let last = then_only _ _ before.follows in
      rw (← same last.follows, length-append) (omega (arith, in_order_length n before.accepts))

  in_order_at : (n : ℕ) {xs : List A} → in_order f n ≡ accepted xs → (d : A) (v : ℕ) → v < n → f v ≡ accepted (get_or xs v d)
  unfolding in_order
  in_order_at zero h d v i = absurd (omega arith)
  in_order_at (suc n) h d v i =
      let before = then_only _ _ h in
      let last = then_only _ _ before.follows in
      let xs = before.first in
      let x = last.first in
      let l = in_order_length n before.accepts in
      let le : v ≤ n = omega arith in
      rw (← same last.follows)
      (⊎_elim
      (λ (e : v ≡ n). rw (e, get_or_at xs x [] d n l) last.accepts)
      (λ (lt : v < n). rw (get_or-append xs (x ∷ []) d v (omega arith)) (in_order_at n before.accepts d v lt))
      (eq-or-lt_of_le le))

shown-spanned : (g : Kind × Float) {e : Entry} → in_hundredths g ≡ accepted e → Spanned e
unfolding in_hundredths
shown-spanned g {e} h = go (in_span g.1) refl h
  where
    go : (b : Bool) → in_span g.1 ≡ b → cond b (accepted (g.0, hundredths_of g.1)) (refused SPAN) ≡ accepted e → Spanned e
    go true within f = record { gain = g.1; in_span_lem = within; number = ap (λ (x : Entry). x.1) (sym (same f)) }
    go false within f = let z : ◌≡◌ {A = ℕ} 0 1 = cc in absurd (omega arith)

-- the entries of an accepted plate
module _ (gain : ℕ → Outcome (Kind × Float)) {entries : List Entry} (h : plate_of gain ≡ accepted entries) where
  abbrev shown-at : ℕ → Outcome Entry
  shown-at v = and_then (gain v) in_hundredths

  entries_in_order : in_order shown-at 360 ≡ accepted entries
  unfolding plate_of
  entries_in_order = (then_only _ _ h).follows

  pub plate-length : length entries ≡ 360
  plate-length = in_order_length shown-at 360 entries_in_order

  entry-is : (d : Entry) (v : ℕ) → v < 360 → shown-at v ≡ accepted (get_or entries v d)
  entry-is d v i = in_order_at shown-at 360 entries_in_order d v i

  -- equal gains are shown alike
  pub entries_alike : (d : Entry) (v w : ℕ) → v < 360 → w < 360 → gain v ≡ gain w → get_or entries v d ≡ get_or entries w d
  entries_alike d v w i j e = same (sym (entry-is d v i) ∙ ap (λ (g : Outcome (Kind × Float)). and_then g in_hundredths) e ∙ entry-is d w j)

  -- and each in hundredths of a float in span
  pub entries_spanned : (d : Entry) (v : ℕ) → v < 360 → Spanned (get_or entries v d)
  entries_spanned d v i = let told = then_only _ _ (entry-is d v i) in shown-spanned told.first told.follows
