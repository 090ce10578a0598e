-- A refusal with a place says what is bad there, and that nothing before it is. Assumes nothing.
use mathlib.Core.Path.{◌≡◌, refl}
use Prim.Native.Nat.{ℕ, ◌≤◌, ◌<◌}
use native.Mathlib.Decide.{dec_le}
use native.Mathlib.Omega.{arith}
use mathlib.Core.Bool.{Bool, true, false, cond}
use mathlib.Core.List.{List}
use mathlib.Core.Logic.{◌⊎◌, inl, inr}
use borrow.Author.Tests.{lt-leb, eqb-true, eqb-false, not-true}
use lib.Dec.{eqb}
use lib.ListN.{length}
use Rattle.answers.specs.Refusals.{ROW, GAP, OVERLAP}
use Rattle.bandbook.specs.Answers.{refused_at}
use Rattle.bandbook.specs.declared.rows.Row.{Row}
use Rattle.std.proofs.Common.{Option, Some, None}
use Rattle.bandbook.specs.Rows.{rows_in, row, row_ok, bad_row}
use Rattle.bandbook.specs.Coverage.{covering}
use Rattle.bandbook.specs.Book.{first_bad_row, bad_khz, lowest_bad_khz, khz_fault, khz_answer, row_fault, book_of}
use Rattle.bandbook.specs.Meaning.{GoodRows, IsFirstBad, OnceBelow, Reported, first_row, lowest_gap, lowest_overlap}
use Rattle.bandbook.proofs.Least.{apart, First, found_first}
use Rattle.bandbook.proofs.Faults.{row-good}
use Rattle.bandbook.proofs.GoodBook.{book_whole, none-bad, good-once}

several : (n : ℕ) → (n ≡ 0 → ⊥) → (n ≡ 1 → ⊥) → 2 ≤ n
several n zero one = omega arith

module _ (rows : List Row) where
  -- ---- a bad row

  module _ {i : ℕ} (first : First (bad_row rows) (length rows) 0 i) where
    before : (j : ℕ) → j < i → (j < 64) × (row_ok (row rows j) ≡ true)
    before j h = row-good rows j (first.none j (omega arith) h)

    at_most : i ≤ 64
    at_most = go (dec_le i 64)
      where
        go : Dec (i ≤ 64) → i ≤ 64
        go (yes h) = h
        go (no n) = absurd (omega (arith, (before 64 (omega arith)).0))

    why : (i ≡ 64) ⊎ (row_ok (row rows i) ≡ false)
    unfolding bad_row
    why = go (dec_le 64 i)
      where
        go : Dec (64 ≤ i) → (i ≡ 64) ⊎ (row_ok (row rows i) ≡ false)
        go (yes h) = inl (omega (arith, at_most))
        go (no n) = inr (not-true _ (rw (lt-leb 64 i (omega arith)) at first.passes))

    first-bad : IsFirstBad rows i
    first-bad = record { within = omega (arith, first.up_to); up_to = at_most; bad = why; before = λ j h. (before j h).1 }

  row_reported : {i : ℕ} → first_bad_row rows ≡ Some i → IsFirstBad rows i
  unfolding first_bad_row
  row_reported e = first-bad (found_first (bad_row rows) (length rows) 0 e)

  -- ---- a bad kHz

  by_count : {number khz : ℕ} → GoodRows rows → First (bad_khz rows) 28000 2000 khz → cond (eqb (covering rows khz) 0) GAP OVERLAP ≡ number → Reported rows number khz
  unfolding bad_khz
  by_count {number} {khz} good first n = go (eqb (covering rows khz) 0) refl n
    where
      below : OnceBelow rows khz
      below = record { rows_good = good; from = first.from; up_to = first.up_to; below = λ k l u. good-once rows k (first.none k l u) }

      go : (b : Bool) → eqb (covering rows khz) 0 ≡ b → cond b GAP OVERLAP ≡ number → Reported rows number khz
      go true t e = rw (← e) (lowest_gap below (eqb-true _ _ t))
      go false t e = rw (← e) (lowest_overlap below (several (covering rows khz) (eqb-false _ _ t) (eqb-false _ _ (not-true _ first.passes))))

  khz_reported : {number place : ℕ} → first_bad_row rows ≡ None → khz_answer rows ≡ refused_at number place → Reported rows number place
  unfolding lowest_bad_khz khz_fault
  khz_reported {number} {place} none e = go (lowest_bad_khz rows) refl e
    where
      go : (f : Option ℕ) → lowest_bad_khz rows ≡ f → khz_fault rows f ≡ refused_at number place → Reported rows number place
      go None t e = absurd (apart (cc))
      go (Some khz) t e =
          let k : khz ≡ place = cc in
          let n : cond (eqb (covering rows khz) 0) GAP OVERLAP ≡ number = cc in
          rw (← k) (by_count (none-bad rows none) (found_first (bad_khz rows) 28000 2000 t) n)

-- what the answer of a book says of its rows
pub reported : (words : List ℕ) {number place : ℕ} → book_of words ≡ refused_at number place → Reported (rows_in words) number place
unfolding row_fault
reported words {number} {place} e = go (first_bad_row rows) refl (book_whole words e (λ z. apart (cc))).1
  where
    rows : List Row
    rows = rows_in words

    go : (f : Option ℕ) → first_bad_row rows ≡ f → row_fault rows f ≡ refused_at number place → Reported rows number place
    go None t e = khz_reported rows t e
    go (Some i) t e =
        let n : ROW ≡ number = cc in
        let p : i ≡ place = cc in
        rw (← n, ← p) (first_row (row_reported rows t))
