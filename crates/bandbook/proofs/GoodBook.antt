-- A book is accepted just where it is good. Assumes nothing.
use mathlib.Core.Path.{◌≡◌, refl, ◌∙◌}
use Prim.Native.Nat.{ℕ, ◌%◌, ◌≤◌, ◌<◌}
use native.Mathlib.Omega.{arith}
use native.Mathlib.Decide.{dec_le}
use mathlib.Core.Bool.{Bool, true, false, cond, not}
use mathlib.Core.List.{List}
use mathlib.Core.Logic.{◌↔◌}
use borrow.Author.Tests.{eq-eqb, eqb-true, not-false}
use lib.Dec.{eqb}
use lib.ListN.{length}
use Rattle.answers.specs.Refusals.{SPACE}
use Rattle.bandbook.specs.Answers.{Answer, accepted, refused}
use Rattle.bandbook.specs.declared.rows.Row.{Row}
use Rattle.std.proofs.Common.{Option, Some, None}
use Rattle.bandbook.specs.Rows.{rows_in, row, row_ok, bad_row}
use Rattle.bandbook.specs.Coverage.{covering}
use Rattle.bandbook.specs.Book.{first_bad_row, bad_khz, lowest_bad_khz, khz_fault, khz_answer, row_fault, rows_answer, book_of}
use Rattle.bandbook.specs.Meaning.{GoodRows, GoodBook}
use Rattle.bandbook.proofs.Least.{apart, found_none}
use Rattle.bandbook.proofs.Faults.{row-good, good-row, no_row_found, once-good, no_khz_found}

-- ---- whole rows

pub whole_book : (words : List ℕ) → length words % 3 ≡ 0 → book_of words ≡ rows_answer (rows_in words)
unfolding book_of
whole_book words e = rw (eq-eqb _ _ e)

pub book_whole : (words : List ℕ) {answer : Answer} → book_of words ≡ answer → (refused SPACE ≡ answer → ⊥)
    → (length words % 3 ≡ 0) × (rows_answer (rows_in words) ≡ answer)
unfolding book_of
book_whole words {answer} e other = go (eqb (length words % 3) 0) refl e
  where
    go : (b : Bool) → eqb (length words % 3) 0 ≡ b → cond (not b) (refused SPACE) (rows_answer (rows_in words)) ≡ answer
        → (length words % 3 ≡ 0) × (rows_answer (rows_in words) ≡ answer)
    go true t e = (eqb-true _ _ t, e)
    go false t e = absurd (other e)

module _ (rows : List Row) where
  -- ---- no bad row

  pub none-bad : first_bad_row rows ≡ None → GoodRows rows
  unfolding first_bad_row
  none-bad e = record { few = go (dec_le (length rows) 64); ok = λ i h. (good i h).1 }
    where
      good : (i : ℕ) → i < length rows → (i < 64) × (row_ok (row rows i) ≡ true)
      good i h = row-good rows i (found_none (bad_row rows) (length rows) 0 e i (omega arith) (omega arith))

      go : Dec (length rows ≤ 64) → length rows ≤ 64
      go (yes h) = h
      go (no n) = absurd (omega (arith, (good 64 (omega arith)).0))

  pub bad-none : GoodRows rows → first_bad_row rows ≡ None
  bad-none good = no_row_found rows (λ i l u. good-row rows i (omega arith) (good.ok i u))

  -- ---- every kHz just once

  pub good-once : (khz : ℕ) → bad_khz rows khz ≡ false → covering rows khz ≡ 1
  unfolding bad_khz
  good-once khz e = eqb-true _ _ (not-false _ e)

  accepted-once : {n : ℕ} → khz_answer rows ≡ accepted n → (khz : ℕ) → 2000 ≤ khz → khz < 30000 → covering rows khz ≡ 1
  unfolding lowest_bad_khz khz_fault
  accepted-once {n} e = go (lowest_bad_khz rows) refl e
    where
      go : (f : Option ℕ) → lowest_bad_khz rows ≡ f → khz_fault rows f ≡ accepted n → (khz : ℕ) → 2000 ≤ khz → khz < 30000 → covering rows khz ≡ 1
      go (Some k) t e = absurd (apart (cc))
      go None t e = λ khz l u. good-once khz (found_none (bad_khz rows) 28000 2000 t khz l u)

  accepted-rows : {n : ℕ} → rows_answer rows ≡ accepted n → GoodRows rows × (khz_answer rows ≡ accepted n)
  unfolding row_fault
  accepted-rows {n} e = go (first_bad_row rows) refl e
    where
      go : (f : Option ℕ) → first_bad_row rows ≡ f → row_fault rows f ≡ accepted n → GoodRows rows × (khz_answer rows ≡ accepted n)
      go (Some i) t e = absurd (apart (cc))
      go None t e = (none-bad t, e)

module _ (words : List ℕ) where
  pub accepted-good : {n : ℕ} → book_of words ≡ accepted n → GoodBook words
  accepted-good e =
      let whole = book_whole words e (λ z. apart (cc)) in
      let rows = accepted-rows (rows_in words) whole.1 in
      record { whole = whole.0; rows = rows.0; once = accepted-once (rows_in words) rows.1 }

  good-accepted : GoodBook words → book_of words ≡ accepted 0
  unfolding row_fault
  good-accepted good =
      whole_book words good.whole
      ∙ rw (bad-none (rows_in words) good.rows) (no_khz_found (rows_in words) (λ k l u. once-good (rows_in words) k (good.once k l u)))

  -- a book is accepted just where its rows are whole and good and cover each kHz of the span just once
  pub good_book : (book_of words ≡ accepted 0) ↔ GoodBook words
  good_book = (accepted-good, good-accepted)
