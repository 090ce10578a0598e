-- What is known of the figures: what lies behind, a difference's sign, the beam, who leads. Assumes nothing.
use Prim.Native.Nat.{ℕ, zero, suc, ◌+◌, ◌-◌, ◌*◌, ◌%◌, ◌≤◌, ◌<◌, zero-le}
use mathlib.Core.Path.{◌≡◌, refl, sym, ap, ◌∙◌}
use mathlib.Core.Bool.{Bool, true, false, cond, ◌&&◌, false≢true}
use mathlib.Core.List.{List}
use mathlib.Core.Logic.{⊎_elim}
use native.Mathlib.Nat.{eq-or-lt_of_le, le_refl}
use native.Mathlib.Omega.{arith}
use native.Mathlib.Numerals.{add-one}
use borrow.Author.Tests.{ltb-true, ltb-false, le-ltb, eqb-false}
use lib.Dec.{ltb, eqb}
use lib.IntN.{ℤ, pos, negsuc, neg_ℤ, ◌+ℤ◌, +ℤ_comm, neg_ℤ-+ℤ, neg_ℤ-neg_ℤ}
use lib.ListN.{get_or}
use Rattle.answers.specs.declared.Kind.{Kind}
use Rattle.answers.specs.declared.Kind.TheVariants as kind
use Rattle.hundredths.specs.Raised.{lowered}
use Rattle.hundredths.proofs.Raised.{lowered-difference}
use Rattle.dial.specs.Kinds.{is_level}
use Rattle.dial.specs.Scale.{better_of, peak_azimuth}
use Rattle.figures.specs.Figures.{behind_to, behind_of, difference_of, in_beam, in_row, steps_of, beam_of, leads_at, count_to, leads_of}

-- ---- round the compass

turned : (x y : ℕ) → (x % 360 + y) % 360 ≡ (x + y) % 360
turned x y = omega arith

turns : (x k : ℕ) → (x + 360 * k) % 360 ≡ x % 360
turns x k = omega arith

-- from the azimuth after p clockwise r steps, and from the one before it counter-clockwise the others of 358, lead to the same
meet : (p r k : ℕ) → r + k ≡ 358 → ((p + 1) % 360 + r) % 360 ≡ ((p + 359) % 360 + 359 * k) % 360
meet p r k h =
    let e : p + 359 + 359 * k ≡ p + 1 + r + 360 * k = omega arith in
    turned (p + 1) r ∙ sym (turned (p + 359) (359 * k) ∙ ap (λ (x : ℕ). x % 360) e ∙ turns (p + 1 + r) k)

module _ (numbers : List ℕ) where
  -- ---- what lies behind

  pub behind_none : behind_to numbers 0 ≡ 90
  unfolding behind_to
  behind_none = refl

  -- one number more
  pub behind_more : (v : ℕ) → 91 ≤ v → behind_to numbers (v + 1 - 91) ≡ better_of numbers (behind_to numbers (v - 91)) v
  unfolding behind_to
  behind_more v h = go (v - 91) (omega arith)
    where
      go : (n : ℕ) → v ≡ 91 + n → behind_to numbers (v + 1 - 91) ≡ better_of numbers (behind_to numbers n) v
      go n e = let d : v + 1 - 91 ≡ suc n = omega arith in rw (d, e)

  -- from 90 to 90 + n no number is above it, and those before it are below
  record Greatest (n p : ℕ) : Type 0 where
    from : 90 ≤ p
    to : p ≤ 90 + n
    greatest : (v : ℕ) → 90 ≤ v → v ≤ 90 + n → get_or numbers v 0 ≤ get_or numbers p 0
    first : (v : ℕ) → 90 ≤ v → v < p → get_or numbers v 0 < get_or numbers p 0

  greatest_step : (n p : ℕ) → Greatest n p → (b : Bool)
      → (b ≡ true → get_or numbers p 0 < get_or numbers (91 + n) 0)
      → (b ≡ false → get_or numbers (91 + n) 0 ≤ get_or numbers p 0)
      → Greatest (suc n) (cond b (91 + n) p)
  greatest_step n p k true h l = record {
    from = omega arith;
    to = omega arith;
    greatest = λ v i j. ⊎_elim (λ (e : v ≡ 91 + n). rw e (le_refl _)) (λ (m : v < 91 + n). omega (arith, k.greatest v i (omega arith), h refl)) (let m : v ≤ 91 + n = omega arith in eq-or-lt_of_le m);
    first = λ v i j. omega (arith, k.greatest v i (omega arith), h refl);
  }
  greatest_step n p k false h l = record {
    from = k.from;
    to = omega (arith, k.to);
    greatest = λ v i j. ⊎_elim (λ (e : v ≡ 91 + n). rw e (l refl)) (λ (m : v < 91 + n). k.greatest v i (omega arith)) (let m : v ≤ 91 + n = omega arith in eq-or-lt_of_le m);
    first = k.first;
  }

  greatest_is : (n : ℕ) → Greatest n (behind_to numbers n)
  unfolding behind_to better_of
  greatest_is zero = record {
    from = le_refl 90;
    to = le_refl 90;
    greatest = λ v i j. let e : v ≡ 90 = omega arith in rw e (le_refl _);
    first = λ v i j. absurd (omega arith);
  }
  greatest_is (suc n) =
      let p = behind_to numbers n in
      let b = ltb (get_or numbers p 0) (get_or numbers (91 + n) 0) in
      greatest_step n p (greatest_is n) b (ltb-true (get_or numbers p 0) (get_or numbers (91 + n) 0)) (ltb-false (get_or numbers p 0) (get_or numbers (91 + n) 0))

  pub behind-place : (90 ≤ behind_of numbers) × (behind_of numbers ≤ 270)
  unfolding behind_of
  behind-place = ((greatest_is 180).from, (greatest_is 180).to)

  pub behind-greatest : (v : ℕ) → 90 ≤ v → v ≤ 270 → get_or numbers v 0 ≤ get_or numbers (behind_of numbers) 0
  unfolding behind_of
  behind-greatest = (greatest_is 180).greatest

  pub behind-first : (v : ℕ) → 90 ≤ v → v < behind_of numbers → get_or numbers v 0 < get_or numbers (behind_of numbers) 0
  unfolding behind_of
  behind-first = (greatest_is 180).first

  -- ---- the beam

  -- one azimuth more, or no more
  pub row_goes_on : (turn v n : ℕ) → 1 ≤ n → in_beam numbers v ≡ true → in_row numbers turn v n ≡ 1 + in_row numbers turn ((v + turn) % 360) (n - 1)
  unfolding in_row
  row_goes_on turn v n h t = go (n - 1) (omega arith)
    where
      go : (m : ℕ) → n ≡ suc m → in_row numbers turn v n ≡ 1 + in_row numbers turn ((v + turn) % 360) m
      go m e = rw (e, t) (omega arith)

  pub row_ends : (turn v n : ℕ) → in_beam numbers v ≡ false → in_row numbers turn v n ≡ 0
  unfolding in_row
  row_ends turn v zero t = refl
  row_ends turn v (suc n) t = rw t

  pub row-none : (turn v n : ℕ) → n ≡ 0 → in_row numbers turn v n ≡ 0
  unfolding in_row
  row-none turn v n e = rw e

  row-most : (turn v n : ℕ) → in_row numbers turn v n ≤ n
  unfolding in_row
  row-most turn v zero = le_refl 0
  row-most turn v (suc n) = go (in_beam numbers v) (row-most turn ((v + turn) % 360) n)
    where
      go : {m : ℕ} (b : Bool) → m ≤ n → cond b (suc m) 0 ≤ suc n
      go true h = omega arith
      go false h = zero-le

  -- clockwise, the azimuth past a row that ended lies out of the beam
  row_stops : (n v : ℕ) → v < 360 → in_row numbers 1 v n < n → in_beam numbers ((v + in_row numbers 1 v n) % 360) ≡ false
  unfolding in_row
  row_stops zero v h i = absurd (omega arith)
  row_stops (suc n) v h i = go (in_beam numbers v) refl (in_row numbers 1 ((v + 1) % 360) n) (row_stops n ((v + 1) % 360) (omega arith)) i
    where
      go : (b : Bool) → in_beam numbers v ≡ b → (m : ℕ) → (m < n → in_beam numbers (((v + 1) % 360 + m) % 360) ≡ false) → cond b (suc m) 0 < suc n
          → in_beam numbers ((v + cond b (suc m) 0) % 360) ≡ false
      go true t m f j = let e : (v + suc m) % 360 ≡ ((v + 1) % 360 + m) % 360 = omega arith in rw e (f (omega arith))
      go false t m f j = let e : (v + 0) % 360 ≡ v = omega arith in rw e t

  -- counter-clockwise, no row goes past an azimuth out of the beam
  row_stopped : (n j v : ℕ) → v < 360 → in_beam numbers ((v + 359 * j) % 360) ≡ false → in_row numbers 359 v n ≤ j
  unfolding in_row
  row_stopped zero j v h t = zero-le
  row_stopped (suc n) zero v h t = let e : (v + 359 * 0) % 360 ≡ v = omega arith in rw (rw e at t) (le_refl 0)
  row_stopped (suc n) (suc j) v h t =
      let e : (v + 359 * suc j) % 360 ≡ ((v + 359) % 360 + 359 * j) % 360 = omega arith in
      go (in_beam numbers v) (row_stopped n j ((v + 359) % 360) (omega arith) (rw e at t))
    where
      go : {m : ℕ} (b : Bool) → m ≤ j → cond b (suc m) 0 ≤ suc j
      go true i = omega arith
      go false i = zero-le

  pub steps-most : (turn : ℕ) → steps_of numbers turn ≤ 359
  unfolding steps_of
  steps-most turn = row-most turn ((peak_azimuth numbers + turn) % 360) 359

  -- steps that end on both sides end before they meet
  steps_apart : steps_of numbers 1 < 359 → steps_of numbers 1 + steps_of numbers 359 ≤ 358
  unfolding steps_of
  steps_apart h =
      let p = peak_azimuth numbers in
      let right = in_row numbers 1 ((p + 1) % 360) 359 in
      omega (arith, row_stopped 359 (358 - right) ((p + 359) % 360) (omega arith) (rw (meet p right (358 - right) (omega arith)) at (row_stops 359 ((p + 1) % 360) (omega arith) h)))

  pub beam_most : beam_of numbers ≤ 360
  unfolding beam_of
  beam_most = go (eqb (steps_of numbers 1) 359) (eqb-false (steps_of numbers 1) 359)
    where
      go : (b : Bool) → (b ≡ false → steps_of numbers 1 ≡ 359 → ⊥) → cond b 360 (steps_of numbers 1 + 1 + steps_of numbers 359) ≤ 360
      go true h = le_refl 360
      go false h = omega (arith, steps_apart (omega (arith, steps-most 1, h refl)))

-- ---- a difference, by its sign

pub difference-from : (a b : ℕ) → b ≤ a → difference_of a b ≡ pos (a - b)
unfolding difference_of
difference-from a b h = lowered-difference a b h

pub difference_below : (a b : ℕ) → a < b → difference_of a b ≡ negsuc (b - suc a)
unfolding difference_of
difference_below a b h =
    let e : b - a ≡ suc (b - suc a) = omega arith in
    +ℤ_comm (lowered a) (neg_ℤ (lowered b))
    ∙ ap (λ (z : ℤ). neg_ℤ (lowered b) +ℤ z) (sym (neg_ℤ-neg_ℤ (lowered a)))
    ∙ sym (neg_ℤ-+ℤ (lowered b) (neg_ℤ (lowered a)))
    ∙ ap neg_ℤ (lowered-difference b a (omega arith) ∙ ap pos e)

-- ---- who leads

pub count_none : (test : ℕ → Bool) → count_to test 0 ≡ 0
unfolding count_to
count_none test = refl

pub count_more : (test : ℕ → Bool) (n : ℕ) → count_to test (n + 1) ≡ count_to test n + cond (test n) 1 0
unfolding count_to
count_more test n = rw add-one refl

-- two rows never lead each other at the same azimuth
module _ (a : List ℕ) (ka : List Kind) (b : List ℕ) (kb : List Kind) where
  pub leads-apart : (v : ℕ) → leads_at a ka b v ≡ true → leads_at b kb a v ≡ false
  unfolding leads_at
  leads-apart v t =
      let h : get_or b v 0 < get_or a v 0 = ltb-true (get_or b v 0) (get_or a v 0) (second (is_level (get_or ka v kind.Level)) (ltb (get_or b v 0) (get_or a v 0)) t) in
      rw (le-ltb (get_or a v 0) (get_or b v 0) (omega arith)) (none (is_level (get_or kb v kind.Level)))
    where
      second : (p q : Bool) → (p && q) ≡ true → q ≡ true
      second true q t = t
      second false q t = absurd (false≢true t)

      none : (p : Bool) → (p && false) ≡ false
      none true = refl
      none false = refl

  sum_to : (n : ℕ) → count_to (leads_at a ka b) n + count_to (leads_at b kb a) n ≤ n
  unfolding count_to
  sum_to zero = le_refl 0
  sum_to (suc n) = go (count_to (leads_at a ka b) n) (count_to (leads_at b kb a) n) (leads_at a ka b n) (leads_at b kb a n) (leads-apart n) (sum_to n)
    where
      go : (i j : ℕ) (p q : Bool) → (p ≡ true → q ≡ false) → i + j ≤ n → i + cond p 1 0 + (j + cond q 1 0) ≤ suc n
      go i j true true h l = absurd (false≢true (sym (h refl)))
      go i j true false h l = omega arith
      go i j false true h l = omega arith
      go i j false false h l = omega arith

  -- so that both counts together are at most all azimuths
  pub leads_sum : leads_of a ka b + leads_of b kb a ≤ 360
  unfolding leads_of
  leads_sum = sum_to 360
