-- What is told is the lowest number that a slot breaks, with the lowest slot that breaks it; nothing only where none is broken.
use mathlib.Core.Path.{◌≡◌, refl, sym, ap, ◌∙◌}
use Prim.Native.Nat.{ℕ, zero, suc, ◌+◌, ◌<◌, ◌≤◌}
use native.Mathlib.Nat.{eq-or-lt_of_le}
use native.Mathlib.Omega.{arith}
use mathlib.Core.Bool.{Bool, true, false, cond}
use mathlib.Core.Logic.{⊎_elim}
use Rattle.std.proofs.Common.{Some, None}
use Rattle.slots.specs.Told.{Breaks, Why, lowest, or_else, numbers_from, told, number_of}
use Rattle.slots.specs.Meaning.{Lowest, Unbroken}

apart : ◌≡◌ {A = ℕ} 0 1 → ⊥
apart z = omega arith

-- a number and a slot, told alike
parts : {n s m t : ℕ} → ◌≡◌ {A = Why} (Some (n, s)) (Some (m, t)) → (n ≡ m) × (s ≡ t)
unfolding number_of
parts e = (ap number_of e, ap slot_of e)
  where
    slot_of : Why → ℕ
    slot_of None = 0
    slot_of (Some found) = found.1

-- one more below those that aren't broken
below : (test : ℕ → Bool) {k j : ℕ} → test k ≡ false → ((i : ℕ) → suc k ≤ i → i < j → test i ≡ false) → (i : ℕ) → k ≤ i → i < j → test i ≡ false
below test e rest i l u = ⊎_elim (λ (s : ◌≡◌ {A = ℕ} _ i). rw s at e) (λ (h : _ < i). rest i h u) (eq-or-lt_of_le l)

module _ (breaks : Breaks) where
  -- ---- the slots of one limit

  record FirstSlot (n k s m t : ℕ) : Type 0 where
    number : m ≡ n
    from : s ≤ t
    up_to : t < s + k
    breaks_it : breaks n t ≡ true
    none : (i : ℕ) → s ≤ i → i < t → breaks n i ≡ false

  first_slot : (n k s : ℕ) {m t : ℕ} → lowest breaks n k s ≡ Some (m, t) → FirstSlot n k s m t
  unfolding lowest
  first_slot n zero s e = absurd (apart (cc))
  first_slot n (suc k) s {m} {t} e = go (breaks n s) refl (first_slot n k (suc s)) e
    where
      go : (b : Bool) → breaks n s ≡ b → (lowest breaks n k (suc s) ≡ Some (m, t) → FirstSlot n k (suc s) m t) → cond b (Some (n, s)) (lowest breaks n k (suc s)) ≡ Some (m, t) → FirstSlot n (suc k) s m t
      go true b later e =
          let same = (parts e).1 in
          let number = sym (parts e).0 in
          record { number = number; from = omega arith; up_to = omega arith; breaks_it = rw same at b; none = λ i l u. absurd (omega arith) }
      go false b later e =
          let f = later e in
          record { number = f.number; from = omega arith; up_to = omega arith; breaks_it = f.breaks_it; none = below (breaks n) b f.none }

  no_slot : (n k s : ℕ) → lowest breaks n k s ≡ None → (i : ℕ) → s ≤ i → i < s + k → breaks n i ≡ false
  unfolding lowest
  no_slot n zero s e = λ i l u. absurd (omega arith)
  no_slot n (suc k) s e = go (breaks n s) refl (no_slot n k (suc s)) e
    where
      go : (b : Bool) → breaks n s ≡ b → (lowest breaks n k (suc s) ≡ None → (i : ℕ) → suc s ≤ i → i < suc s + k → breaks n i ≡ false) → cond b (Some (n, s)) (lowest breaks n k (suc s)) ≡ None
          → (i : ℕ) → s ≤ i → i < s + suc k → breaks n i ≡ false
      go true b later e = absurd (apart (cc))
      go false b later e = below (breaks n) b (λ i l u. later e i l (omega arith))

  -- ---- the numbers

  abbrev Kept : ℕ → Type 0
  Kept n = (s : ℕ) → s < 20 → breaks n s ≡ false

  record FirstNumber (k n m t : ℕ) : Type 0 where
    from : n ≤ m
    up_to : m < n + k
    slot : FirstSlot m 20 0 m t
    none : (i : ℕ) → n ≤ i → i < m → Kept i

  keeps_below : {k j : ℕ} → Kept k → ((i : ℕ) → suc k ≤ i → i < j → Kept i) → (i : ℕ) → k ≤ i → i < j → Kept i
  keeps_below {k} kept rest i l u s h = ⊎_elim (λ (e : k ≡ i). rw e at (kept s h)) (λ (lt : k < i). rest i lt u s h) (eq-or-lt_of_le l)

  first_number : (k n : ℕ) {m t : ℕ} → numbers_from breaks k n ≡ Some (m, t) → FirstNumber k n m t
  unfolding numbers_from or_else
  first_number zero n e = absurd (apart (cc))
  first_number (suc k) n {m} {t} e = go (lowest breaks n 20 0) refl (first_number k (suc n)) e
    where
      go : (w : Why) → lowest breaks n 20 0 ≡ w → (numbers_from breaks k (suc n) ≡ Some (m, t) → FirstNumber k (suc n) m t) → or_else w (numbers_from breaks k (suc n)) ≡ Some (m, t) → FirstNumber (suc k) n m t
      go None w later e =
          let f = later e in
          record { from = omega arith; up_to = omega arith; slot = f.slot; none = keeps_below (λ s h. no_slot n 20 0 w s (omega arith) h) f.none }
      go (Some found) w later e =
          let g = first_slot n 20 0 (w ∙ e) in
          let same : m ≡ n = g.number in
          record { from = omega arith; up_to = omega arith; slot = rw (← same) at g; none = λ i l u. absurd (omega arith) }

  no_number : (k n : ℕ) → numbers_from breaks k n ≡ None → (i : ℕ) → n ≤ i → i < n + k → Kept i
  unfolding numbers_from or_else
  no_number zero n e = λ i l u. absurd (omega arith)
  no_number (suc k) n e = go (lowest breaks n 20 0) refl (no_number k (suc n)) e
    where
      go : (w : Why) → lowest breaks n 20 0 ≡ w → (numbers_from breaks k (suc n) ≡ None → (i : ℕ) → suc n ≤ i → i < suc n + k → Kept i) → or_else w (numbers_from breaks k (suc n)) ≡ None → (i : ℕ) → n ≤ i → i < n + suc k → Kept i
      go None w later e = keeps_below (λ s h. no_slot n 20 0 w s (omega arith) h) (λ i l u. later e i l (omega arith))
      go (Some found) w later e = absurd (apart (cc))

  -- ---- the answer

  pub told-lowest : {n s : ℕ} → told breaks ≡ Some (n, s) → Lowest breaks n s
  unfolding told
  told-lowest e =
      let f = first_number 6 2 e in
      record {
        limit = (f.from, omega arith);
        slot = f.slot.up_to;
        breaks_it = f.slot.breaks_it;
        no_lower_slot = λ t u. f.slot.none t (omega arith) u;
        no_lower_limit = λ m t l u h. f.none m l u t h;
      }

  pub told-nothing : told breaks ≡ None → Unbroken breaks
  unfolding told
  told-nothing e n s l u h = no_number 6 2 e n l (omega arith) s h
