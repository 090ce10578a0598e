-- What the reader's test for a record comes to in each edition, by the first byte and the last. Assumes nothing.
use mathlib.Core.Path.{◌≡◌, ap, ◌∙◌}
use mathlib.Core.Bool.{true, false, ◌&&◌, and_comm}
use Prim.Native.Nat.{ℕ, ◌/◌, ◌%◌, ◌^◌, ◌≤◌, ◌<◌}
use native.Mathlib.Nat.{mod-lt, mod-one, div-one}
use native.Mathlib.Omega.{arith}
use mathlib.Core.List.{List}
use lib.ListN.{length, get_or}
use lib.Dec.{eqb, leb, lit≤}
use lib.Pow.{pow_pos}
use borrow.Author.Tests.{eq-eqb, eqb-true, leb-true, lt-leb}
use Rattle.floats.proofs.Tests.{both}
use Rattle.model.specs.Limits.{slot}
use Rattle.words.specs.Digits.{Below}
use Rattle.station.specs.Header.{type_bits, width_of, type_agrees}
use Rattle.station.specs.Record.{header_in, spare_in, floats_in, edition_in, mode_in, type_in, is_of_edition, is_record}
use Rattle.station.proofs.Unpacking.{header_at, spare_at}

-- what a record is
module _ (b : List ℕ) (r : is_record b ≡ true) where
  parts : (eqb (length b) 225 ≡ true) × (leb (edition_in b) 1 ≡ true) × (is_of_edition (edition_in b) b ≡ true)
  unfolding is_record
  parts =
      let p = both (eqb (length b) 225 && leb (edition_in b) 1) (is_of_edition (edition_in b) b) r in
      let q = both (eqb (length b) 225) (leb (edition_in b) 1) p.0 in
      (q.0, q.1, p.1)

  pub record_length : length b ≡ 225
  record_length = eqb-true (length b) 225 parts.0

  pub record_edition : edition_in b ≤ 1
  record_edition = leb-true (edition_in b) 1 parts.1

  fields : (eqb (spare_in (width_of (edition_in b)) b) 0 ≡ true) × (type_agrees (edition_in b) (type_in (edition_in b) b) (mode_in b) (slot (floats_in (width_of (edition_in b)) b) 1) ≡ true)
  unfolding is_of_edition
  fields = both (eqb (spare_in (width_of (edition_in b)) b) 0) _ parts.2

  pub record_spare : spare_in (width_of (edition_in b)) b ≡ 0
  record_spare = eqb-true (spare_in (width_of (edition_in b)) b) 0 fields.0

  pub record_agrees : type_agrees (edition_in b) (type_in (edition_in b) b) (mode_in b) (slot (floats_in (width_of (edition_in b)) b) 1) ≡ true
  record_agrees = fields.1

pub type_in_small : (edition : ℕ) (b : List ℕ) → type_in edition b < 2 ^ type_bits edition
unfolding type_in
type_in_small edition b = mod-lt (header_in (width_of edition) b) (pow_pos (type_bits edition))

-- the test, by the bytes
module _ (b : List ℕ) (bytes : Below 256 b) (len : length b ≡ 225) where
  pub edition_at : edition_in b ≡ get_or b 0 0 / 64
  edition_at = omega (arith, header_at 4 (lit≤ tt) b bytes len)

  pub mode_at : mode_in b ≡ get_or b 0 0 / 16 % 4
  mode_at = ap (λ (n : ℕ). n % 4) (header_at 4 (lit≤ tt) b bytes len)

  pub edition_0 : get_or b 0 0 / 64 ≡ 0 → is_record b ≡ eqb (get_or b 224 0 % 16) 0
  unfolding is_record is_of_edition width_of type_bits type_agrees
  edition_0 e =
      rw (eq-eqb (length b) 225 len, edition_at ∙ e, spare_at 4 (lit≤ tt) b bytes len) (and_comm (eqb (get_or b 224 0 % 16) 0) true)

  pub edition_1 : get_or b 0 0 / 64 ≡ 1 → is_record b ≡ type_agrees 1 (get_or b 0 0 % 16) (get_or b 0 0 / 16 % 4) (slot (floats_in 8 b) 1)
  unfolding is_record is_of_edition width_of type_bits type_in
  edition_1 e =
      rw (eq-eqb (length b) 225 len, edition_at ∙ e, mode_at, spare_at 8 (lit≤ tt) b bytes len, header_at 8 (lit≤ tt) b bytes len, mod-one, div-one)

  pub edition_above : 1 < get_or b 0 0 / 64 → is_record b ≡ false
  unfolding is_record
  edition_above l = rw (eq-eqb (length b) 225 len, edition_at, lt-leb (get_or b 0 0 / 64) 1 l)
