-- Numbers in span: the greatest of their hundredths, raised as the code holds it, and what an entry loses to it. Assumes nothing.
use Prim.Native.Nat.{ℕ, zero, suc, ◌-◌, ◌≤◌, ◌<◌, max}
use mathlib.Core.Path.{◌≡◌, refl, sym, ap, subst, ◌∙◌}
use mathlib.Core.Bool.{Bool, true, false, cond, true≢false}
use mathlib.Core.List.{List}
use mathlib.Core.Logic.{⊎_elim}
use native.Mathlib.Nat.{eq-or-lt_of_le, le_refl, zero-add}
use native.Mathlib.Omega.{arith}
use borrow.Author.Tests.{lt-ltb, leb-true, leb-false}
use lib.Dec.{T, leb, leb→le, lit≤}
use lib.IntN.{pos}
use lib.ListN.{length}
use lib.Ieee.{Float, nan, lt, le}
use lib.Ieee.Scale.{finite}
use Rattle.std.proofs.lemmas.List.Folds.{list_all_at}
use Rattle.floats.specs.Ops.{at}
use Rattle.floats.proofs.Tests.{both}
use Rattle.plate_row.specs.Row as row
use Rattle.plate_row.proofs.Greatest.{larger_bounds}
use Rattle.hundredths.proofs.Nearest.{order}
use Rattle.hundredths.specs.Hundredths.{in_span, hundredths_of}
use Rattle.hundredths.specs.Raised.{raised_of, lowered}
use Rattle.hundredths.proofs.Raised.{raised-le, lowered-raised, lowered_order, lowered-difference}
use Rattle.planet_lines.specs.Losses.{all_in_span, larger, greatest_to, greatest, loss_at, top_to, top}

-- what holds of v and of all below it
each : (P : ℕ → Type 0) (n v : ℕ) → v ≤ n → P n → (v < n → P v) → P v
each P n v h last earlier = ⊎_elim (λ (e : v ≡ n). rw e last) earlier (eq-or-lt_of_le h)

larger-lowered : (a b : ℕ) → larger (lowered a) (lowered b) ≡ lowered (max a b)
unfolding larger
larger-lowered a b = rw (lowered_order a b) (go (leb a b) (leb-true a b) (leb-false a b))
  where
    go : (t : Bool) → (t ≡ true → a ≤ b) → (t ≡ false → b < a) → cond t (lowered b) (lowered a) ≡ lowered (max a b)
    go true h k = ap lowered (omega (arith, h refl))
    go false h k = ap lowered (omega (arith, k refl))

module _ (numbers : List Float) where
  none_above : (n v : ℕ) → v < n → raised_of (at numbers v) ≤ top_to numbers n
  unfolding top_to
  none_above zero v h = absurd (omega arith)
  none_above (suc n) v h =
      each (λ (w : ℕ). raised_of (at numbers w) ≤ top_to numbers (suc n)) n v (omega arith) (omega arith) (λ (lt : v < n). omega (arith, none_above n v lt))

  -- a number that has it
  record Attained (n : ℕ) : Type 0 where
    place : ℕ
    within : place ≤ n
    there : raised_of (at numbers place) ≡ top_to numbers (suc n)

  attained_more : (n : ℕ) → Attained n
      → let next = raised_of (at numbers (suc n)) in
      (t : Bool) → (t ≡ true → top_to numbers (suc n) ≤ next) → (t ≡ false → next < top_to numbers (suc n)) → Attained (suc n)
  unfolding top_to
  attained_more n before true h k = record { place = suc n; within = le_refl (suc n); there = omega (arith, h refl) }
  attained_more n before false h k = record { place = before.place; within = omega (arith, before.within); there = omega (arith, before.there, k refl) }

  attained : (n : ℕ) → Attained n
  unfolding top_to
  attained zero = record { place = 0; within = le_refl 0; there = omega arith }
  attained (suc n) =
      let next = raised_of (at numbers (suc n)) in
      let so_far = top_to numbers (suc n) in
      attained_more n (attained n) (leb so_far next) (leb-true so_far next) (leb-false so_far next)

  module _ (span : all_in_span numbers ≡ true) where
    pub span_at : (v : ℕ) → v < length numbers → in_span (at numbers v) ≡ true
    unfolding all_in_span
    span_at v i = go (in_span (at numbers v)) refl
      where
        go : (b : Bool) → in_span (at numbers v) ≡ b → b ≡ true
        go true e = refl
        go false e = absurd (true≢false (sym span ∙ list_all_at in_span numbers v nan i e))

    lowered_to : (n : ℕ) → n < length numbers → lowered (top_to numbers (suc n)) ≡ greatest_to numbers n
    unfolding top_to greatest_to
    lowered_to zero i = ap lowered (omega arith) ∙ lowered-raised (at numbers 0) (span_at 0 i)
    lowered_to (suc n) i =
        rw (← lowered_to n (omega arith), ← lowered-raised (at numbers (suc n)) (span_at (suc n) i))
        (sym (larger-lowered (top_to numbers (suc n)) (raised_of (at numbers (suc n)))))

    pub lowered-top : 0 < length numbers → lowered (top numbers) ≡ greatest numbers
    unfolding top greatest
    lowered-top some =
        let last = lowered_to (length numbers - 1) (omega arith) in
        let all : suc (length numbers - 1) ≡ length numbers = omega arith in
        rw all at last

    top_to_le : (n : ℕ) → n ≤ length numbers → top_to numbers n ≤ 200000
    unfolding top_to
    top_to_le zero i = lit≤ tt
    top_to_le (suc n) i = omega (arith, top_to_le n (omega arith), raised-le (at numbers n) (span_at n i))

    pub top_le : top numbers ≤ 200000
    unfolding top
    top_le = top_to_le (length numbers) (le_refl _)

    module _ (v : ℕ) (i : v < length numbers) where
      pub entry_le : raised_of (at numbers v) ≤ top numbers
      unfolding top
      entry_le = none_above (length numbers) v i

      -- in whole numbers above 0
      pub loss_is : loss_at numbers v ≡ pos (top numbers - raised_of (at numbers v))
      unfolding loss_at
      loss_is =
          rw (lt-ltb v (length numbers) i, ← lowered-top (omega arith), ← lowered-raised (at numbers v) (span_at v i))
          (lowered-difference (top numbers) (raised_of (at numbers v)) entry_le)

    -- the number that has it loses nothing
    pub lossless-at : 0 < length numbers → (v : ℕ) × (v < length numbers) × (loss_at numbers v ≡ pos 0)
    unfolding top
    lossless-at some =
        let a = attained (length numbers - 1) in
        let inside : a.place < length numbers = omega (arith, a.within) in
        let all : suc (length numbers - 1) ≡ length numbers = omega arith in
        let there = rw all at a.there in
        (a.place, inside, loss_is a.place inside ∙ ap pos (omega (arith, there)))

-- ---- the greatest number of a row has the greatest hundredths

span_finite : (x : Float) → in_span x ≡ true → T (finite x)
unfolding in_span
span_finite x h = subst T (sym (both (finite x) _ h).0) tt

said : (b : Bool) → T b → b ≡ true
said true t = refl
said false t = absurd t

raised_order : (x y : Float) → in_span x ≡ true → in_span y ≡ true → le x y ≡ true → raised_of x ≤ raised_of y
raised_order x y p q h =
    let o = (order x y (span_finite x p) (span_finite y q) h).le in
    leb→le _ _ (rw (← lowered-raised x p, ← lowered-raised y q, lowered_order) at o)

module _ (x y : Float) (p : in_span x ≡ true) (q : in_span y ≡ true) where
  larger_span : in_span (row.larger x y) ≡ true
  unfolding row.larger
  larger_span = go (lt x y)
    where
      go : (b : Bool) → in_span (cond b y x) ≡ true
      go true = q
      go false = p

  -- the second where it is above the first, else the first
  larger-at : (b : Bool) → lt x y ≡ b → hundredths_of (row.larger x y) ≡ lowered (max (raised_of x) (raised_of y))
  unfolding row.larger le
  larger-at true e =
      let above : le x y ≡ true = rw e in
      rw e (sym (lowered-raised y q) ∙ ap lowered (omega (arith, raised_order x y p q above)))
  larger-at false e =
      let bounds = larger_bounds x y (span_finite x p) (span_finite y q) in
      let below : le y x ≡ true = said (le y x) (rw e at bounds.right) in
      rw e (sym (lowered-raised x p) ∙ ap lowered (omega (arith, raised_order y x q p below)))

  larger_hundredths : hundredths_of (row.larger x y) ≡ larger (hundredths_of x) (hundredths_of y)
  larger_hundredths = rw (← lowered-raised x p, ← lowered-raised y q, larger-lowered) (larger-at (lt x y) refl)

module _ (numbers : List Float) (span : all_in_span numbers ≡ true) where
  gain-to : (n : ℕ) → n < length numbers → (in_span (row.greatest_of numbers 0 n) ≡ true) × (hundredths_of (row.greatest_of numbers 0 n) ≡ greatest_to numbers n)
  unfolding row.greatest_of greatest_to
  gain-to zero i = (span_at numbers span 0 i, refl)
  gain-to (suc n) i =
      let before = gain-to n (omega arith) in
      let x = row.greatest_of numbers 0 n in
      let y = at numbers (suc n) in
      let q = span_at numbers span (suc n) i in
      rw (zero-add (suc n), ← before.1) (larger_span x y before.0 q, larger_hundredths x y before.0 q)

  pub gain_of_row : length numbers ≡ 360 → greatest numbers ≡ hundredths_of (row.greatest numbers 0 359)
  unfolding greatest
  gain_of_row len =
      let e : length numbers - 1 ≡ 359 = omega arith in
      rw e (sym (gain-to 359 (omega arith)).1)
