-- The answers don't hang on the order of the rows. Assumes nothing.
use mathlib.Core.Path.{◌≡◌, refl, sym, ap, ◌∙◌}
use Prim.Native.Nat.{ℕ, ◌%◌, ◌≤◌, ◌<◌}
use native.Mathlib.Decide.{dec_le}
use native.Mathlib.Omega.{arith}
use mathlib.Core.Bool.{not}
use mathlib.Core.List.Permᴰ
use mathlib.Core.List.{List, Permᴰ}
use borrow.Author.Tests.{le-ltb, le-leb, lt-leb}
use lib.Dec.{eqb}
use lib.ListN.{length}
use Rattle.bandbook.specs.Answers.{Answer, accepted, refused, refused_at}
use Rattle.bandbook.specs.declared.rows.Row.{Row}
use Rattle.std.proofs.Common.{Option, Some, None}
use Rattle.bandbook.specs.Rows.{rows_in}
use Rattle.bandbook.specs.Coverage.{covering}
use Rattle.bandbook.specs.Least.{least}
use Rattle.bandbook.specs.Book.{first_bad_row, bad_khz, lowest_bad_khz, khz_fault, khz_answer, row_fault, rows_answer, book_of, in_span, looked_up, after_book, station_for}
use Rattle.bandbook.specs.Meaning.{GoodRows, Alike, both_bad, answer_alike}
use Rattle.bandbook.proofs.Least.{apart}
use Rattle.bandbook.proofs.GoodBook.{whole_book, none-bad, bad-none, accepted-good}
use Rattle.bandbook.proofs.Totals.{good_order, covering_order, station_order}

module _ {a b : List Row} (p : Permᴰ a b) where
  lowest_order : lowest_bad_khz a ≡ lowest_bad_khz b
  unfolding bad_khz lowest_bad_khz
  lowest_order = ap (λ (count : ℕ → ℕ). least (λ khz. not (eqb (count khz) 1)) 28000 2000) (λ i khz. covering_order khz p i)

  khz_order : khz_answer a ≡ khz_answer b
  unfolding khz_fault
  khz_order = ap (khz_fault a) lowest_order ∙ go (lowest_bad_khz b)
    where
      go : (f : Option ℕ) → khz_fault a f ≡ khz_fault b f
      go None = refl
      go (Some khz) = rw (covering_order khz p)

  rows_order : GoodRows a → rows_answer a ≡ rows_answer b
  unfolding row_fault
  rows_order good = rw (bad-none a good, bad-none b (good_order p good)) khz_order

  looked_up_order : ((khz : ℕ) → 2000 ≤ khz → khz < 30000 → covering a khz ≡ 1) → (khz : ℕ) → looked_up a khz ≡ looked_up b khz
  unfolding in_span looked_up
  looked_up_order once khz = go (dec_le 2000 khz) (dec_le 30000 khz)
    where
      go : Dec (2000 ≤ khz) → Dec (30000 ≤ khz) → looked_up a khz ≡ looked_up b khz
      go (yes l) (no n) = rw (station_order khz p (once khz l (omega arith)))
      go (yes l) (yes h) = rw (le-ltb khz 30000 h, le-leb 2000 khz l)
      go (no n) h = rw (lt-leb 2000 khz (omega arith))

module _ (a b : List ℕ) (wa : length a % 3 ≡ 0) (wb : length b % 3 ≡ 0) where
  both-bad : {i j : ℕ} → first_bad_row (rows_in a) ≡ Some i → first_bad_row (rows_in b) ≡ Some j → Alike a b
  unfolding row_fault
  both-bad {i} {j} e d = both_bad {i = i} {j = j} (whole_book a wa ∙ rw e) (whole_book b wb ∙ rw d)

  module _ (p : Permᴰ (rows_in a) (rows_in b)) where
    alike : GoodRows (rows_in a) → Alike a b
    unfolding after_book station_for
    alike good = answer_alike same (λ khz. ap (λ (x : Answer). after_book x (rows_in a) khz) same ∙ go (book_of b) refl khz)
      where
        same : book_of a ≡ book_of b
        same = whole_book a wa ∙ rows_order p good ∙ sym (whole_book b wb)

        go : (x : Answer) → book_of b ≡ x → (khz : ℕ) → after_book x (rows_in a) khz ≡ after_book x (rows_in b) khz
        go (accepted n) e = looked_up_order p (accepted-good a (same ∙ e)).once
        go (refused n) e = λ khz. refl
        go (refused_at n place) e = λ khz. refl

    -- the same rows in another order: both books have a bad row, or every answer is the same
    pub order_free : Alike a b
    order_free = go (first_bad_row (rows_in a)) (first_bad_row (rows_in b)) refl refl
      where
        go : (f g : Option ℕ) → first_bad_row (rows_in a) ≡ f → first_bad_row (rows_in b) ≡ g → Alike a b
        go None g e d = alike (none-bad (rows_in a) e)
        go (Some i) (Some j) e d = both-bad e d
        go (Some i) None e d =
            let good = bad-none (rows_in a) (good_order (Permᴰ.symm p) (none-bad (rows_in b) d)) in
            absurd (apart (cc))
