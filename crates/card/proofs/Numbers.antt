-- What the station of a good card holds: the numbers that people typed, each one that its field takes, in its place. Assumes nothing.
use mathlib.Core.Path.{◌≡◌, refl, sym, ap, ◌∙◌}
use mathlib.Core.Bool.{true, false}
use mathlib.Core.List.{List, [], ◌∷◌}
use Prim.Native.Nat.{ℕ, ◌+◌, ◌-◌, ◌≤◌}
use native.Mathlib.Omega.{arith}
use Rattle.std.specs.Prelude.{Some, None, Result, Ok, Err}
use lib.Dec.{eqb, leb-zero}
use lib.ListN.{length}
use lib.Ieee.{Float}
use borrow.Author.Tests.{eqb-true, eqb-false, ne_eqb, le-leb, not-true}
use Rattle.quoted.specs.Quoted.{quoted}
use Rattle.lines.specs.Alike.{alike}
use Rattle.lines.proofs.Laws.{alike_equal}
use Rattle.decimal.specs.declared.NotRead.{NotRead}
use Rattle.decimal.specs.declared.NotRead.TheVariants as read
use Rattle.decimal.specs.Word.{run, is_decimal}
use Rattle.decimal.specs.Reading as decimal
use Rattle.fields.specs.declared.Kind.{Kind}
use Rattle.fields.specs.Least.{or_else, least}
use Rattle.fields.specs.Names.{TYPE, FIELDS, names, name_of, field_of}
use Rattle.fields.specs.Table.{CURTAIN, LAST, rows, row_number, is_maximum_gain, in_kind, is_row_of, row_of, has_field, count_of}
use Rattle.fields.specs.Limits.{is_count, type_number, takes, refusal_of}
use Rattle.fields.proofs.Least.{by_test, least-found, least_passes, least-le}
use Rattle.fields.proofs.Laws.{name_back, first_place, number-placed}
use Rattle.card.specs.declared.mistakes.Fault.TheVariants.{Limit}
use Rattle.card.specs.Card.{Card, word, field_in, line_at, line_with, line_of, line_for}
use Rattle.card.specs.Kind.{is_curtain, numbered_type, type_of, type_in}
use Rattle.card.specs.Mistakes.{read_fault, word_fault}
use Rattle.card.specs.Places.{read_value, value_of, placed}
use Rattle.card.specs.Good.{GoodLine, GoodCard, Taken, Stands, TypeStands, curtain, numbered}

pub no_length : {A : Type 0} (l : List A) → length l ≡ 0 → l ≡ []
no_length [] e = refl
no_length (x ∷ l) e = absurd (omega arith)

-- nothing names no field
pub nameless : field_of [] ≡ 0
unfolding field_of least or_else name_of names quoted alike
nameless = refl

-- `curtain` is no number
curtain-word : (w : List ℕ) → is_curtain w ≡ true → decimal.read_of w ≡ Err read.NotANumber
unfolding decimal.read_of is_decimal run quoted
curtain-word w e = ap decimal.read_of (sym (alike_equal (quoted "curtain") w e))

-- what nothing is wrong with is a number that the field takes
taken : (kind : Kind) (f k : ℕ) (r : Result Float NotRead) → read_fault kind f k r ≡ None → Taken kind f k r (read_value r)
unfolding read_fault read_value
taken kind f k (Ok x) e = record {
  reads = refl;
  taken = by_test (takes kind f k x) (λ q. q) (λ q. let bad : Some (Limit (refusal_of f)) ≡ None = rw q at e in let z : ◌≡◌ {A = ℕ} 0 1 = cc in absurd (omega arith));
}
taken kind f k (Err read.TooLarge) e = let z : ◌≡◌ {A = ℕ} 0 1 = cc in absurd (omega arith)
taken kind f k (Err read.NotANumber) e = let z : ◌≡◌ {A = ℕ} 0 1 = cc in absurd (omega arith)

-- such a word isn't `curtain`, so it stands for that number
value_taken : (kind : Kind) (f k : ℕ) (w : List ℕ) {x : Float} → Taken kind f k (decimal.read_of w) x → value_of w ≡ x
unfolding value_of read_value
value_taken kind f k w t =
    by_test (is_curtain w)
    (λ q. let bad = sym t.reads ∙ curtain-word w q in let z : ◌≡◌ {A = ℕ} 0 1 = cc in absurd (omega arith))
    (λ q. rw (q, t.reads))

typed-number : (w : List ℕ) (x : Float) → is_curtain w ≡ false → decimal.read_of w ≡ Ok x → type_of w ≡ type_number x
unfolding type_of numbered_type
typed-number w x q e = rw (q, e)

module _ (kind : Kind) (card : Card) (g : GoodCard kind card) where
  -- the line that begins with a field's name is about it, and a good one
  module _ (f : ℕ) (h : 1 ≤ f) (l : f ≤ FIELDS) (there : 1 ≤ line_of card f) where
    begun : alike (name_of f) (word (line_for card f) 0) ≡ true
    unfolding line_with
    begun = least_passes (λ (j : ℕ). alike (name_of f) (word (line_at card j) 0)) (length card) there

    about : field_in (line_for card f) ≡ f
    about = name_back f h l (word (line_for card f) 0) begun

    some : 1 ≤ length (line_for card f)
    some =
        by_test (eqb (length (line_for card f)) 0)
        (λ q. absurd (omega (arith, nameless, rw (no_length (line_for card f) (eqb-true _ _ q)) at about)))
        (λ q. omega (arith, eqb-false (length (line_for card f)) 0 q))

    field_line : GoodLine kind card (line_of card f)
    unfolding line_with
    field_line = g.lines (line_of card f) there (least-le (λ (j : ℕ). alike (name_of f) (word (line_at card j) 0)) (length card)) some

    number-right : (k : ℕ) → 1 ≤ k → k ≤ count_of kind f → word_fault kind f k (word (line_for card f) k) ≡ None
    number-right k low high = rw about at field_line.numbers.right k low high

  module _ (t : kind.iant ≤ CURTAIN) (m : kind.mode ≤ 3) where
    -- what stands in the place of a field's number k
    place_of : (f k : ℕ) → 1 ≤ f → f ≤ FIELDS → 1 ≤ k → k ≤ count_of kind f
        → placed kind card (first_place kind f + (k - 1)) ≡ value_of (word (line_for card f) k)
    unfolding placed
    place_of f k h l low high = rw (number-placed kind t m f k h l low high, ne_eqb f 0 (λ z. omega arith))

    -- every number of a field but the type is one that the field takes, and stands in its place
    pub number-stands : (f k : ℕ) → 2 ≤ f → f ≤ FIELDS → has_field kind f ≡ true → 1 ≤ k → k ≤ count_of kind f → Stands kind card f k (first_place kind f + (k - 1))
    unfolding word_fault
    number-stands f k h l its low high =
        let w = word (line_for card f) k in
        let right = number-right f (omega arith) l (g.whole f (omega arith) l its) k low high in
        let it = taken kind f k (decimal.read_of w) (rw (ne_eqb f TYPE (λ z. omega arith)) at right) in
        record { value = read_value (decimal.read_of w); taken = it; place = place_of f k (omega arith) l low high ∙ value_taken kind f k w it }

    -- ---- the type

    type_row : row_of kind TYPE ≡ 1
    unfolding row_of row_number rows in_kind is_maximum_gain least
    type_row = least-found (is_row_of kind TYPE) 0 LAST refl (rw (leb-zero, le-leb kind.iant 10 t)) (omega arith)

    type_count : count_of kind TYPE ≡ 1
    unfolding count_of row_number rows
    type_count = rw type_row

    type_place : first_place kind TYPE ≡ 1
    unfolding row_number rows
    type_place = rw type_row

    slot_1 : placed kind card 1 ≡ value_of (word (line_for card TYPE) 1)
    slot_1 = rw type_place at (place_of TYPE 1 (omega arith) (omega arith) (omega arith) (omega (arith, type_count)))

    pub type-stands : kind.iant ≡ type_in card → TypeStands kind card
    unfolding type_in type_of word_fault value_of takes type_number
    type-stands e =
        let w = word (line_for card TYPE) 1 in
        let right = number-right TYPE (omega arith) (omega arith) g.typed 1 (omega arith) (omega (arith, type_count)) in
        by_test (is_curtain w)
        (λ q. curtain (e ∙ rw q) (slot_1 ∙ rw q))
        (λ q.
        let it = taken kind TYPE 1 (decimal.read_of w) (rw q at right) in
        let x = read_value (decimal.read_of w) in
        let is : kind.iant ≡ type_number x = e ∙ typed-number w x q it.reads in
        let stands : placed kind card 1 ≡ x = slot_1 ∙ value_taken kind TYPE 1 w it in
        let some = eqb-false (type_number x) 0 (not-true _ it.taken) in
        numbered (omega (arith, is, some)) (omega (arith, is, least-le (is_count x) 9)) (rw (stands, is) (least_passes (is_count x) 9 (omega (arith, some)))))

-- ---- of a card's own kind

pub type-le : (w : List ℕ) → type_of w ≤ CURTAIN
unfolding type_of numbered_type type_number
type-le w = by_test (is_curtain w) (λ q. rw q (omega arith)) (λ q. rw q (go (decimal.read_of w)))
  where
    go : (r : Result Float NotRead) → numbered_type r ≤ CURTAIN
    go (Ok x) = omega (arith, least-le (is_count x) 9)
    go (Err e) = omega arith
