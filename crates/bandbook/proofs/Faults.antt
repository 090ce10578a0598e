-- What is found first is what a book answers. Assumes nothing.
use mathlib.Core.Path.{◌≡◌, refl, sym, ap}
use Prim.Native.Nat.{ℕ, ◌≤◌, ◌<◌}
use native.Mathlib.Omega.{arith}
use mathlib.Core.Bool.{Bool, true, false, cond, not, ◌||◌, true≢false}
use mathlib.Core.List.{List}
use borrow.Author.Tests.{ne_eqb, not-false, leb-false, lt-leb}
use lib.Dec.{eqb, leb}
use lib.ListN.{length}
use Rattle.answers.specs.Refusals.{GAP, OVERLAP}
use Rattle.bandbook.specs.Answers.{accepted, refused_at}
use Rattle.bandbook.specs.declared.rows.Row.{Row}
use Rattle.std.proofs.Common.{Option, Some, None}
use Rattle.std.specs.Option.{MatchOption}
use native.Mathlib.Decide.{dec_le}
use Rattle.bandbook.specs.Rows.{row, row_ok, bad_row}
use Rattle.bandbook.specs.Coverage.{covering}
use Rattle.bandbook.specs.Book.{first_bad_row, bad_khz, lowest_bad_khz, khz_fault, khz_answer}
use Rattle.bandbook.proofs.Least.{NoneTo, first_found, none_found}

or_false : (a b : Bool) → (a || b) ≡ false → (a ≡ false) × (b ≡ false)
or_false true b e = let z : true ≡ false = e in absurd (true≢false z)
or_false false b e = (refl, e)

module _ (rows : List Row) where
  -- only the first 64 rows can be good
  pub row-good : (i : ℕ) → bad_row rows i ≡ false → (i < 64) × (row_ok (row rows i) ≡ true)
  unfolding bad_row
  row-good i e =
      let both = or_false (leb 64 i) (not (row_ok (row rows i))) e in
      (leb-false 64 i both.0, not-false (row_ok (row rows i)) both.1)

  pub good-row : (i : ℕ) → i < 64 → row_ok (row rows i) ≡ true → bad_row rows i ≡ false
  unfolding bad_row
  good-row i h e = rw (lt-leb 64 i h, e)

  pub row-found : (i : ℕ) → i < length rows → NoneTo (bad_row rows) 0 i → bad_row rows i ≡ true → first_bad_row rows ≡ Some i
  unfolding first_bad_row
  row-found i h none e = first_found (bad_row rows) (length rows) 0 (record { from = omega arith; up_to = omega arith; passes = e; none = none })

  pub no_row_found : NoneTo (bad_row rows) 0 (length rows) → first_bad_row rows ≡ None
  unfolding first_bad_row
  no_row_found none = none_found (bad_row rows) (length rows) 0 (λ i l u. none i l (omega arith))

  pub once-good : (khz : ℕ) → covering rows khz ≡ 1 → bad_khz rows khz ≡ false
  unfolding bad_khz
  once-good khz e = rw e

  pub khz_found : (khz : ℕ) → 2000 ≤ khz → khz < 30000 → NoneTo (bad_khz rows) 2000 khz → (covering rows khz ≡ 1 → ⊥)
      → khz_answer rows ≡ refused_at (cond (eqb (covering rows khz) 0) GAP OVERLAP) khz
  unfolding bad_khz lowest_bad_khz khz_fault
  khz_found khz l u none n = ap (khz_fault rows) (first_found (bad_khz rows) 28000 2000 (record { from = l; up_to = omega arith; passes = rw (ne_eqb _ _ n); none = none }))

  pub no_khz_found : NoneTo (bad_khz rows) 2000 30000 → khz_answer rows ≡ accepted 0
  unfolding lowest_bad_khz khz_fault
  no_khz_found none = ap (khz_fault rows) (none_found (bad_khz rows) 28000 2000 none)

  -- what `find` over the rows answers, and that it fits
  abbrev pub FoundBad : Option ℕ → Type 0
  FoundBad r = MatchOption r ((k : ℕ) → 0 ≤ k → k < length rows → bad_row rows k ≡ false) (λ i. (0 ≤ i) × (i < length rows) × (bad_row rows i ≡ true) × NoneTo (bad_row rows) 0 i)

  pub found_bad : (r : Option ℕ) → FoundBad r → r ≡ first_bad_row rows
  found_bad None m = sym (no_row_found m)
  found_bad (Some i) m = sym (row-found i m.1 m.3 m.2)

  pub low_bad : (i : ℕ) → FoundBad (Some i) → i ≤ 64
  low_bad i m = go (dec_le i 64)
    where
      go : Dec (i ≤ 64) → i ≤ 64
      go (yes h) = h
      go (no n) = let low = (row-good 64 (m.3 64 (omega arith) (omega arith))).0 in absurd (omega (arith, low))
