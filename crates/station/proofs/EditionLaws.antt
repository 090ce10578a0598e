-- The editions told apart, and what a refusal leaves. Assumes nothing.
use mathlib.Core.Path.{◌≡◌, refl, sym, ap, ◌∙◌, subst}
use mathlib.Core.Bool.{Bool, true, false, not, ◌&&◌, cond, and-false, and_comm, false≢true}
use Prim.Native.Nat.{ℕ, ◌+◌, ◌*◌, ◌≤◌}
use native.Mathlib.Nat.{div-one}
use mathlib.Core.List.{List}
use lib.ListN.{length, get_or}
use lib.Dec.{eqb, leb, lit≤}
use lib.Ieee.{Float, nan, inf, fin, le, add, sub, neg, of_bits, to_signed}
use lib.Ieee.Scale.{finite}
use borrow.Author.Tests.{eqb-true, le-leb}
use Rattle.answers.specs.Outcome as outcomes
use Rattle.answers.specs.Refusals.{RECORD}
use Rattle.floats.specs.Ranges.{all_finite}
use Rattle.floats.specs.Rounding.{nint_of}
use Rattle.model.specs.Limits.{slot}
use Rattle.model.specs.Types.{jant_of, type_ok}
use Rattle.words.specs.Digits.{Below}
use Rattle.station.specs.declared.Station.{Station}
use Rattle.station.specs.Header.{type_bits, width_of, type_of, type_field, header_of, type_agrees, typeless}
use Rattle.station.specs.Record.{header_in, floats_in, floats_of, edition_in, mode_in, type_in, is_of_edition, is_record, record_of}
use Rattle.station.specs.Answers.{Answer, accepted, refused, read_of, write_of}
use Rattle.station.proofs.Unpacking.{header_at}
use Rattle.station.proofs.Editions.{record_length}
use Rattle.station.proofs.RoundTrip.{Typed, accepted_write, accepted-read, form_edition, read-header}

-- a record has the edition that it was written in
pub written_edition : (edition : ℕ) (s : Station) → Typed s → (out bytes : List ℕ) → write_of edition s out ≡ accepted bytes → edition_in bytes ≡ edition
written_edition edition s t out bytes e =
    let a = accepted_write edition s out bytes e in
    ap (λ (b : List ℕ). edition_in b) (sym a.1) ∙ form_edition edition s t a.0

-- so the same bytes are never a record of both
pub one_edition : (e f : ℕ) (s t : Station) → Typed s → Typed t → (out room bytes : List ℕ) → write_of e s out ≡ accepted bytes → write_of f t room ≡ accepted bytes → e ≡ f
one_edition e f s t ts tt' out room bytes p q = sym (written_edition e s ts out bytes p) ∙ written_edition f t tt' room bytes q

-- edition 1's first byte alone tells edition, mode and type
pub first_byte : (bytes : List ℕ) → Below 256 bytes → (s : Station) → read_of bytes ≡ outcomes.accepted s → edition_in bytes ≡ 1
    → get_or bytes 0 0 ≡ (4 + s.mode) * 16 + type_of s.mode (slot s.parm 1)
unfolding header_of type_field type_bits width_of
first_byte bytes below s e one =
    let a = accepted-read bytes s e in
    let h : header_of (edition_in bytes) s.mode (slot s.parm 1) ≡ header_in (width_of (edition_in bytes)) bytes =
    subst (λ (x : Station). header_of (edition_in bytes) x.mode (slot x.parm 1) ≡ header_in (width_of (edition_in bytes)) bytes) a.2 (read-header bytes below a.0 a.1) in
    sym ((rw one at h) ∙ header_at 8 (lit≤ tt) bytes below (record_length bytes a.0) ∙ div-one (get_or bytes 0 0))

-- where slot 1 isn't finite its `jant` is no type
not-finite-typeless : (x : Float) → finite x ≡ false → type_ok (jant_of x) ≡ false
unfolding type_ok jant_of nint_of le add sub neg of_bits to_signed
not-finite-typeless nan e = refl
not-finite-typeless (inf true) e = refl
not-finite-typeless (inf false) e = refl
not-finite-typeless (fin s m k) e = absurd (false≢true (sym e))

-- so no field of modes 0 to 2 agrees with it: the refusal is 1, not 2
pub not-finite-type : (bytes : List ℕ) → edition_in bytes ≡ 1 → mode_in bytes ≤ 2 → finite (slot (floats_in 8 bytes) 1) ≡ false → read_of bytes ≡ outcomes.refused RECORD
unfolding read_of is_record is_of_edition type_agrees width_of type_bits
not-finite-type bytes one two e = rw (one, le-leb (mode_in bytes) 2 two, no_match (type_in 1 bytes) (jant_of (slot (floats_in 8 bytes) 1)) (not-finite-typeless (slot (floats_in 8 bytes) 1) e), and-false, and-false)
  where
    no_match : (field j : ℕ) → type_ok j ≡ false → (type_ok field && eqb field j) ≡ false
    no_match field j h = go (eqb field j) refl
      where
        go : (b : Bool) → eqb field j ≡ b → (type_ok field && b) ≡ false
        go true p = and_comm (type_ok field) true ∙ ap type_ok (eqb-true field j p) ∙ h
        go false p = and-false (type_ok field)

-- a refusal of the writer leaves the lent bytes
kept : {A : Type 0} (refuses : Bool) (n k : ℕ) (out left : A) (rest : Answer A) → (rest ≡ refused k left → left ≡ out) → cond refuses (refused n out) rest ≡ refused k left → left ≡ out
kept true n k out left rest next e = cc
kept false n k out left rest next e = next e

pub lent-kept : (edition : ℕ) (s : Station) (out : List ℕ) (k : ℕ) (left : List ℕ) → write_of edition s out ≡ refused k left → left ≡ out
unfolding write_of
lent-kept edition s out k left =
    kept (not (leb edition 1)) _ k out left _
    (kept (not (all_finite (floats_of s))) _ k out left _
    (kept (typeless edition s.mode (slot s.parm 1)) _ k out left _
    (kept (not (leb s.mode 3)) _ k out left _
    (kept (not (eqb (length out) 225)) _ k out left _ (λ (e : accepted (record_of edition s) ≡ refused k left). cc)))))
