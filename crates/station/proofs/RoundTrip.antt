-- Reading and writing undo each other, in each edition by one argument over the width of its header. Assumes nothing.
use mathlib.Core.Path.{◌≡◌, refl, sym, ap, ◌∙◌}
use mathlib.Core.Bool.{Bool, true, false, not, cond}
use Prim.Native.Nat.{ℕ, ◌+◌, ◌-◌, ◌*◌, ◌/◌, ◌%◌, ◌^◌, ◌≤◌, ◌<◌}
use native.Mathlib.Nat.{div-add-mod'}
use native.Mathlib.Omega.{arith}
use mathlib.Core.List.{List, [], ◌∷◌, map}
use lib.ListN.{length, length-map}
use lib.Seq.{get_or-take}
use lib.Dec.{T, eqb, leb, lit<}
use lib.Ieee.{Float, nan, binary32, of_bits, to_bits, fits}
use lib.Ieee.Bits.{of_bits-to_bits, to_bits-of_bits, to_bits-lt}
use lib.Ieee.Scale.{finite}
use borrow.Author.Tests.{eq-eqb, le-leb, leb-true, not-false}
use Rattle.answers.specs.Outcome as outcomes
use Rattle.answers.proofs.Outcome as tests
use Rattle.floats.specs.Ranges.{all_finite}
use Rattle.floats.proofs.Tests.{both}
use Rattle.model.specs.Limits.{slot}
use Rattle.words.specs.Digits.{number, Below, none, more}
use Rattle.words.proofs.Digits.{below-digits}
use Rattle.station.specs.declared.Station.{Station}
use Rattle.station.specs.Header.{type_bits, width_of, type_field, header_of, typeless}
use Rattle.station.specs.Record.{packed, header_in, words_in, spare_in, floats_of, words_of, station_of, edition_in, mode_in, type_in, floats_in, is_of_edition, is_record, record_of}
use Rattle.station.specs.Answers.{Answer, accepted, refused, floats_answer, read_of, write_of}
use Rattle.station.proofs.Finite.{finite-value, all_finite_cons}
use Rattle.station.proofs.Arrays.{station_of_lem, floats-back, floats-length, in_parm}
use Rattle.station.proofs.Headers.{width_small, own_agrees, agreed, header-small, header_front, header-type, first-four}
use Rattle.station.proofs.Editions.{record_length, record_edition, record_spare, record_agrees, type_in_small}
use Rattle.station.proofs.FieldsRoundTrip.{packed-length, packed-words, packed-header, packed_spare, packed_again}

-- what the type of a station says of its value: the arrays' lengths, and that each float is a binary32
pub data Each : List Float → Type 0 where
  no_float : Each []
  a_float : {x : Float} {xs : List Float} → T (fits binary32 x) → Each xs → Each (x ∷ xs)

pub record Typed (s : Station) : Type 0 where
  pub parm : length s.parm ≡ 20
  pub gainmax : length s.gainmax ≡ 6
  pub gainmaxb : length s.gainmaxb ≡ 30
  pub floats : Each (floats_of s)

patterns_below : {fs : List Float} → Each fs → Below (2 ^ 32) (map (to_bits binary32) fs)
patterns_below no_float = none
patterns_below (a_float {x} h r) = more (to_bits-lt binary32 x h) (patterns_below r)

values_back : {fs : List Float} → Each fs → map (of_bits binary32) (map (to_bits binary32) fs) ≡ fs
values_back no_float = refl
values_back (a_float {x} {xs} h r) = ap (λ (y : Float). y ∷ map (of_bits binary32) (map (to_bits binary32) xs)) (of_bits-to_bits binary32 x h) ∙ ap (λ (ys : List Float). x ∷ ys) (values_back r)

patterns_back : {ws : List ℕ} → Below (2 ^ 32) ws → all_finite (map (of_bits binary32) ws) ≡ true → map (to_bits binary32) (map (of_bits binary32) ws) ≡ ws
patterns_back none e = refl
patterns_back (more {x = w} {xs = ws} h r) e =
    let f = both (finite (of_bits binary32 w)) (all_finite (map (of_bits binary32) ws)) (sym (all_finite_cons (of_bits binary32 w) (map (of_bits binary32) ws)) ∙ e) in
    ap (λ (y : ℕ). y ∷ map (to_bits binary32) (map (of_bits binary32) ws)) (to_bits-of_bits binary32 w h (finite-value (of_bits binary32 w) f.0))
    ∙ ap (λ (ys : List ℕ). w ∷ ys) (patterns_back r f.1)

-- a test that did not refuse
passed : {A : Type 0} (refuses : Bool) (n : ℕ) (left : A) {x : A} {rest : Answer A} → cond refuses (refused n left) rest ≡ accepted x → (refuses ≡ false) × (rest ≡ accepted x)
passed true n left e = cc
passed false n left e = (refl, e)

same_values : {A : Type 0} {x y : A} → accepted x ≡ accepted y → x ≡ y
same_values p = cc

-- the stations that an edition has a form of
pub record HasForm (edition : ℕ) (s : Station) : Type 0 where
  pub known : edition ≤ 1
  pub floats : all_finite (floats_of s) ≡ true
  pub type : typeless edition s.mode (slot s.parm 1) ≡ false
  pub mode : s.mode ≤ 3

-- what it means that the writer accepts
pub accepted_write : (edition : ℕ) (s : Station) (out bytes : List ℕ) → write_of edition s out ≡ accepted bytes → HasForm edition s × (record_of edition s ≡ bytes)
unfolding write_of
accepted_write edition s out bytes e =
    let one = passed (not (leb edition 1)) _ _ e in
    let two = passed (not (all_finite (floats_of s))) _ _ one.1 in
    let three = passed (typeless edition s.mode (slot s.parm 1)) _ _ two.1 in
    let four = passed (not (leb s.mode 3)) _ _ three.1 in
    let eight = passed (not (eqb (length out) 225)) _ _ four.1 in
    (record { known = leb-true edition 1 (not-false _ one.0); floats = not-false _ two.0; type = three.0; mode = leb-true s.mode 3 (not-false _ four.0) }, same_values eight.1)

form_written : (edition : ℕ) (s : Station) (out : List ℕ) → HasForm edition s → length out ≡ 225 → write_of edition s out ≡ accepted (record_of edition s)
unfolding write_of
form_written edition s out f room =
    rw (le-leb edition 1 f.known, f.floats, f.type, le-leb s.mode 3 f.mode, eq-eqb (length out) 225 room)

-- what it means that the reader accepts
pub accepted-read : (bytes : List ℕ) (s : Station) → read_of bytes ≡ outcomes.accepted s
    → let fs = floats_in (width_of (edition_in bytes)) bytes in
    (is_record bytes ≡ true) × (all_finite fs ≡ true) × (station_of (mode_in bytes) fs ≡ s)
unfolding read_of floats_answer
accepted-read bytes s e =
    let one = tests.passed (not (is_record bytes)) _ _ e in
    let two = tests.passed (not (all_finite (floats_in (width_of (edition_in bytes)) bytes))) _ _ one.1 in
    (not-false _ one.0, not-false _ two.0, tests.same two.1)

-- from a station to its record's fields
module _ (edition : ℕ) (s : Station) (t : Typed s) (f : HasForm edition s) where
  header : ℕ
  header = header_of edition s.mode (slot s.parm 1)

  small : header < 2 ^ width_of edition
  unfolding header
  small = header-small edition s.mode (slot s.parm 1) f.known f.mode f.type

  words-below : Below (2 ^ 32) (words_of s)
  words-below = patterns_below t.floats

  words_count : length (words_of s) ≡ 56
  words_count = length-map (floats_of s) (to_bits binary32) ∙ floats-length s t.parm t.gainmax t.gainmaxb

  written-length : length (record_of edition s) ≡ 225
  unfolding record_of header
  written-length = packed-length (width_of edition) (width_small edition) header (words_of s) small words-below words_count

  written_spare : spare_in (width_of edition) (record_of edition s) ≡ 0
  unfolding record_of header
  written_spare = packed_spare (width_of edition) (width_small edition) header (words_of s) small words-below words_count

  written-floats : floats_in (width_of edition) (record_of edition s) ≡ floats_of s
  unfolding record_of header floats_in
  written-floats =
      ap (map (of_bits binary32)) (packed-words (width_of edition) (width_small edition) header (words_of s) small words-below words_count) ∙ values_back t.floats

  written-header : header_in (width_of edition) (record_of edition s) ≡ header
  unfolding record_of header
  written-header = packed-header (width_of edition) (width_small edition) header (words_of s) small words-below words_count

  written_front : header_in 4 (record_of edition s) ≡ edition * 4 + s.mode
  unfolding header
  written_front =
      first-four edition (record_of edition s)
      ∙ ap (λ (n : ℕ). n / 2 ^ type_bits edition) written-header
      ∙ header_front edition s.mode (slot s.parm 1) f.known f.mode f.type

  pub form_edition : edition_in (record_of edition s) ≡ edition
  form_edition = omega (arith, written_front, f.mode)

  written-mode : mode_in (record_of edition s) ≡ s.mode
  written-mode = omega (arith, written_front, f.mode)

  written_type : type_in edition (record_of edition s) ≡ type_field edition s.mode (slot s.parm 1)
  unfolding type_in header
  written_type =
      ap (λ (n : ℕ). n % 2 ^ type_bits edition) written-header
      ∙ header-type edition s.mode (slot s.parm 1) f.known f.mode f.type

  written-slot : slot (floats_of s) 1 ≡ slot s.parm 1
  written-slot = sym (in_parm s t.parm t.gainmax 1 (lit< tt))

  written_record : is_record (record_of edition s) ≡ true
  unfolding is_record is_of_edition
  written_record =
      rw (written-length, form_edition, le-leb edition 1 f.known, written_spare, written_type, written-mode, written-floats, written-slot)
      (own_agrees s.mode (slot s.parm 1) edition f.known f.type)

  form_read : read_of (record_of edition s) ≡ outcomes.accepted s
  unfolding read_of floats_answer
  form_read =
      rw (written_record, form_edition, written-mode, written-floats, f.floats)
      (ap outcomes.accepted (station_of_lem s.parm s.gainmax s.gainmaxb t.parm t.gainmax s.mode))

-- from a record's fields to its station, and back
module _ (bytes : List ℕ) (below : Below 256 bytes) (r : is_record bytes ≡ true) (finite-floats : all_finite (floats_in (width_of (edition_in bytes)) bytes) ≡ true) where
  abbrev edition : ℕ
  edition = edition_in bytes

  abbrev floats : List Float
  floats = floats_in (width_of edition) bytes

  abbrev station : Station
  station = station_of (mode_in bytes) floats

  read-slot : slot station.parm 1 ≡ slot floats 1
  read-slot = get_or-take 20 floats 1 nan (lit< tt)

  read-type : (type_in edition bytes ≡ type_field edition (mode_in bytes) (slot floats 1)) × (typeless edition (mode_in bytes) (slot floats 1) ≡ false)
  read-type = agreed (mode_in bytes) (slot floats 1) edition (type_in edition bytes) (record_edition bytes r) (type_in_small edition bytes) (record_agrees bytes r)

  pub read-header : header_of edition station.mode (slot station.parm 1) ≡ header_in (width_of edition) bytes
  unfolding header_of type_in
  read-header =
      let u = 2 ^ type_bits edition in
      let front : edition * 4 + mode_in bytes ≡ header_in (width_of edition) bytes / u = omega arith ∙ first-four edition bytes in
      rw (read-slot, front, ← read-type.0) (div-add-mod' (header_in (width_of edition) bytes) u)

  form_of : HasForm edition station
  form_of =
      record {
        known = record_edition bytes r;
        floats = ap all_finite (floats-back (mode_in bytes) floats) ∙ finite-floats;
        type = ap (typeless edition (mode_in bytes)) read-slot ∙ read-type.1;
        mode = omega arith;
      }

  record_back : record_of edition station ≡ bytes
  unfolding record_of floats_in words_in
  record_back =
      ap (λ (n : ℕ). packed (width_of edition) n (words_of station)) read-header
      ∙ ap (λ (fs : List Float). packed (width_of edition) (header_in (width_of edition) bytes) (map (to_bits binary32) fs)) (floats-back (mode_in bytes) floats)
      ∙ ap (packed (width_of edition) (header_in (width_of edition) bytes)) (patterns_back (below-digits (2 ^ 32) 56 (number 256 bytes / 2 ^ (8 - width_of edition)) (lit< tt)) finite-floats)
      ∙ packed_again (width_of edition) bytes below (record_length bytes r) (record_spare bytes r)

-- what the writer writes in an edition, the reader reads as the same station
pub read-written : (edition : ℕ) (s : Station) → Typed s → (out bytes : List ℕ) → write_of edition s out ≡ accepted bytes → read_of bytes ≡ outcomes.accepted s
read-written edition s t out bytes e =
    let a = accepted_write edition s out bytes e in
    ap read_of (sym a.1) ∙ form_read edition s t a.0

-- what the reader reads, the writer writes as the same bytes, told the record's own edition
pub written_read : (bytes : List ℕ) → Below 256 bytes → (s : Station) (out : List ℕ) → length out ≡ 225 → read_of bytes ≡ outcomes.accepted s → write_of (edition_in bytes) s out ≡ accepted bytes
written_read bytes below s out room e =
    let a = accepted-read bytes s e in
    ap (λ (x : Station). write_of (edition_in bytes) x out) (sym a.2)
    ∙ form_written (edition_in bytes) (station bytes below a.0 a.1) out (form_of bytes below a.0 a.1) room
    ∙ ap accepted (record_back bytes below a.0 a.1)
