-- In a good book one row covers a kHz of the span, and the lookup answers its id. Assumes nothing.
use mathlib.Core.Path.{◌≡◌, refl, ap}
use Prim.Native.Nat.{ℕ, zero, suc, ◌≤◌, ◌<◌}
use native.Mathlib.Omega.{arith}
use mathlib.Core.Bool.{Bool, true, false}
use mathlib.Core.List.{List, [], ◌∷◌}
use borrow.Author.Tests.{lt-ltb, le-leb}
use lib.ListN.{length}
use Rattle.bandbook.specs.Answers.{accepted}
use Rattle.bandbook.specs.declared.rows.Row.{Row}
use Rattle.bandbook.specs.Rows.{rows_in, row}
use Rattle.bandbook.specs.Coverage.{covers, covering, station_at}
use Rattle.bandbook.specs.Book.{in_span, looked_up, after_book, station_for}
use Rattle.bandbook.specs.Meaning.{GoodBook, OnlyRow, OneStation}
use Rattle.bandbook.proofs.Least.{apart}
use Rattle.bandbook.proofs.GoodBook.{good_book}
use Rattle.bandbook.proofs.Totals.{covered_one, bare-zero, none-covers}

record Covering (rows : List Row) (khz : ℕ) : Type 0 where
  place : ℕ
  only : OnlyRow rows khz place
  station : station_at rows khz ≡ (row rows place).id

module _ (khz : ℕ) where
  -- the first row covers the kHz, and none of the others
  first_covers : (r : Row) (rows : List Row) → covers khz r ≡ true → covering rows khz ≡ 0 → OnlyRow (r ∷ rows) khz 0
  first_covers r rows t none = record { within = omega arith; covered = t; alone = alone }
    where
      alone : (other : ℕ) → other < suc (length rows) → covers khz (row (r ∷ rows) other) ≡ true → other ≡ 0
      alone zero h e = refl
      alone (suc i) h e = absurd (none-covers khz rows none i (omega arith) e)

  -- the first row doesn't cover it, and one of the others does
  later_covers : (r : Row) (rows : List Row) {place : ℕ} → covers khz r ≡ false → OnlyRow rows khz place → OnlyRow (r ∷ rows) khz (suc place)
  later_covers r rows {place} t only = record { within = omega (arith, only.within); covered = only.covered; alone = alone }
    where
      alone : (other : ℕ) → other < suc (length rows) → covers khz (row (r ∷ rows) other) ≡ true → other ≡ suc place
      alone zero h e = absurd (apart (cc))
      alone (suc i) h e = ap suc (only.alone i (omega arith) e)

  only_row : (rows : List Row) → covering rows khz ≡ 1 → Covering rows khz
  unfolding covering station_at
  only_row [] e = absurd (omega arith)
  only_row (r ∷ rows) e = go (covers khz r) refl (only_row rows)
    where
      go : (b : Bool) → covers khz r ≡ b → (covering rows khz ≡ 1 → Covering rows khz) → Covering (r ∷ rows) khz
      go true t later = record { place = 0; only = first_covers r rows t (omega (arith, covered_one khz r t, e)); station = rw t }
      go false t later =
          let rest = later (omega (arith, bare-zero khz r t, e)) in
          record { place = suc rest.place; only = later_covers r rows t rest.only; station = rw t rest.station }

-- "Looking up a kHz in a good book gives its one station"
pub one-station : (words : List ℕ) → GoodBook words → (khz : ℕ) → 2000 ≤ khz → khz < 30000 → OneStation words khz
unfolding in_span looked_up after_book station_for
one-station words good khz l u =
    let rows = rows_in words in
    let found = only_row khz rows (good.once khz l u) in
    record {
      place = found.place;
      only = found.only;
      answer = rw ((good_book words).1 good, le-leb 2000 khz l, lt-ltb khz 30000 u) (ap accepted found.station);
    }
