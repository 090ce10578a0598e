-- What is proved of the names and of the table: a name names its own field, and each number of a field has its place. Each is one computed test. Assumes nothing.
use mathlib.Core.Path.{◌≡◌, refl, sym, ap, ◌∙◌}
use mathlib.Core.Bool.{Bool, true, not, ◌&&◌, and-eq-true_iff, false≢true}
use mathlib.Core.List.{List}
use Prim.Native.Nat.{ℕ, suc, ◌+◌, ◌-◌, ◌≤◌}
use native.Mathlib.Omega.{arith}
use lib.Dec.{eqb, leb}
use borrow.Author.Tests.{eqb-true, eqb-false, leb-true, not-true, not-false}
use Rattle.quoted.specs.Quoted.{quoted}
use Rattle.lines.specs.Alike.{alike}
use Rattle.lines.proofs.Laws.{alike_equal}
use Rattle.fields.specs.declared.Kind.{Kind}
use Rattle.fields.specs.declared.table.Source.{Source}
use Rattle.fields.specs.Least.{or_else, least}
use Rattle.fields.specs.Names.{GAIN, GAIN_RATIO, GAIN_MHZ, FIELDS, names, name_of, field_of}
use Rattle.fields.specs.Table.{CURTAIN, LAST, rows, row_number, is_maximum_gain, mode_of, in_kind, number_in, is_row_of, is_row_at, row_of, row_at, has_field, count_of, source_of}
use Rattle.fields.proofs.Least.{by_test, least-le, least_passes, least-none}

-- ---- a computed test of every number 1, 2, .., n

passes : (test : ℕ → Bool) (n : ℕ) → least (λ (i : ℕ). not (test i)) n ≡ 0 → (i : ℕ) → 1 ≤ i → i ≤ n → test i ≡ true
passes test n e i h l =
    let s : suc (i - 1) ≡ i = omega arith in
    not-false (test i) (rw s at (least-none (λ (j : ℕ). not (test j)) n e (i - 1) (omega arith)))

-- ---- names

is_back : ℕ → Bool
is_back f = eqb (field_of (name_of f)) f

all_back : least (λ (f : ℕ). not (is_back f)) FIELDS ≡ 0
unfolding is_back least or_else field_of name_of names quoted alike
all_back = refl

-- a field's name names that field: no two have one name
pub name_back : (f : ℕ) → 1 ≤ f → f ≤ FIELDS → (w : List ℕ) → alike (name_of f) w ≡ true → field_of w ≡ f
unfolding is_back
name_back f h l w e = ap field_of (sym (alike_equal (name_of f) w e)) ∙ eqb-true _ _ (passes is_back FIELDS all_back f h l)

-- ---- places

-- the first place of a field's numbers
abbrev pub first_place : Kind → ℕ → ℕ
first_place kind f = (row_number (row_of kind f)).first

-- number k of the field stands in its place
is_placed : Kind → ℕ → ℕ → Bool
is_placed kind f k = let s = source_of kind (first_place kind f + (k - 1)) in eqb s.field f && eqb s.number k

all_placed : Kind → ℕ → Bool
all_placed kind f = eqb (least (λ (k : ℕ). not (is_placed kind f k)) (count_of kind f)) 0

of_kind : Kind → Bool
of_kind kind = eqb (least (λ (f : ℕ). not (all_placed kind f)) FIELDS) 0

-- modes 0 to 3 of one type
of_type : ℕ → Bool
of_type iant = eqb (least (λ (m : ℕ). not (of_kind (record { iant = iant; mode = m - 1 }))) 4) 0

all_types : least (λ (t : ℕ). not (of_type (t - 1))) 11 ≡ 0
unfolding is_placed all_placed of_kind of_type least or_else row_of row_at row_number rows in_kind number_in is_maximum_gain mode_of has_field count_of source_of
all_types = refl

source_is : (s : Source) (f k : ℕ) → s.field ≡ f → s.number ≡ k → s ≡ record { field = f; number = k }
source_is s f k p q = rw (← p, ← q)

-- each number of a field of a kind has a place that it shares with no other: what people type is in the station
pub number-placed : (kind : Kind) → kind.iant ≤ CURTAIN → kind.mode ≤ 3 → (f k : ℕ) → 1 ≤ f → f ≤ FIELDS → 1 ≤ k → k ≤ count_of kind f
    → source_of kind (first_place kind f + (k - 1)) ≡ record { field = f; number = k }
unfolding of_type of_kind all_placed is_placed
number-placed kind t m f k hf lf hk lk =
    let type-is : kind.iant + 1 - 1 ≡ kind.iant = omega arith in
    let mode-is : kind.mode + 1 - 1 ≡ kind.mode = omega arith in
    let types : of_type kind.iant ≡ true = rw type-is at (passes (λ (i : ℕ). of_type (i - 1)) 11 all_types (kind.iant + 1) (omega arith) (omega arith)) in
    let modes : of_kind kind ≡ true =
    rw mode-is at (passes (λ (i : ℕ). of_kind (record { iant = kind.iant; mode = i - 1 })) 4 (eqb-true _ _ types) (kind.mode + 1) (omega arith) (omega arith)) in
    let all : all_placed kind f ≡ true = passes (all_placed kind) FIELDS (eqb-true _ _ modes) f hf lf in
    let here : is_placed kind f k ≡ true = passes (is_placed kind f) (count_of kind f) (eqb-true _ _ all) k hk lk in
    let s = source_of kind (first_place kind f + (k - 1)) in
    let parts = (and-eq-true_iff (eqb s.field f) (eqb s.number k)).0 here in
    source_is s f k (eqb-true _ _ parts.0) (eqb-true _ _ parts.1)

-- every field of a place is one that there is
is_field : ℕ → Bool
is_field r = leb (row_number (r - 1)).field FIELDS

all-fields : least (λ (r : ℕ). not (is_field r)) 40 ≡ 0
unfolding is_field least or_else row_number rows
all-fields = refl

pub source_field : (kind : Kind) (p : ℕ) → (source_of kind p).field ≤ FIELDS
unfolding source_of row_at is_field
source_field kind p =
    let r = least (is_row_at kind p) LAST in
    let e : r + 1 - 1 ≡ r = omega arith in
    leb-true _ _ (rw e at (passes is_field 40 all-fields (r + 1) (omega arith) (omega (arith, least-le (is_row_at kind p) LAST))))

-- ---- the maximum gain

-- a mode has one field for it
pub gain-is : (f : ℕ) → is_maximum_gain f ≡ true → f ≡ GAIN + mode_of f
unfolding is_maximum_gain mode_of
gain-is f h =
    by_test (eqb f GAIN) (λ q. rw (eqb-true f GAIN q)) (λ q.
    by_test (eqb f GAIN_RATIO) (λ r. rw (eqb-true f GAIN_RATIO r)) (λ r.
    by_test (eqb f GAIN_MHZ) (λ s. rw (eqb-true f GAIN_MHZ s)) (λ s. absurd (false≢true (rw (q, r, s) at h)))))

-- and a kind has its mode's alone
pub gain-mode : (kind : Kind) (f : ℕ) → has_field kind f ≡ true → is_maximum_gain f ≡ true → mode_of f ≡ kind.mode
unfolding has_field row_of in_kind
gain-mode kind f h g =
    let r = least (is_row_of kind f) LAST in
    let some = eqb-false r 0 (not-true _ h) in
    let it = row_number r in
    let parts = (and-eq-true_iff (in_kind kind it) (eqb it.field f)).0 (least_passes (is_row_of kind f) LAST (omega (arith, some))) in
    let last = ((and-eq-true_iff (leb it.from kind.iant && leb kind.iant it.to) _).0 parts.0).1 in
    eqb-true _ _ (rw (eqb-true it.field f parts.1, g) at last)
