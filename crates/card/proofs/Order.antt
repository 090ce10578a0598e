-- The order of a good card's lines is free. Assumes nothing.
use mathlib.Core.Path.{◌≡◌, sym, ap, ◌∙◌}
use mathlib.Core.Bool.{Bool, true, cond, false≢true}
use mathlib.Core.List.Permᴰ
use mathlib.Core.List.{List, [], Permᴰ}
use Prim.Native.Nat.{ℕ, suc, ◌+◌, ◌-◌, ◌≤◌}
use native.Mathlib.Omega.{arith}
use Rattle.std.specs.Prelude.{Ok}
use lib.Dec.{eqb}
use lib.ListN.{length}
use lib.Ieee.{Float}
use borrow.Author.Tests.{eqb-true, eqb-false}
use Rattle.lines.specs.Alike.{alike}
use Rattle.floats.specs.Filled.{filled_to}
use Rattle.station.specs.Record.{station_of}
use Rattle.fields.specs.declared.Kind.{Kind}
use Rattle.fields.specs.Names.{TYPE, GAIN, FIELDS, name_of, is_named, field_of}
use Rattle.fields.specs.Table.{CURTAIN, is_maximum_gain, mode_of, source_of}
use Rattle.fields.proofs.Least.{by_test, least-le, least_passes, least_first}
use Rattle.fields.proofs.Laws.{name_back, source_field, gain-is, gain-mode}
use Rattle.card.specs.declared.Reading.{Reading}
use Rattle.card.specs.Card.{Line, Card, card_of, word, field_in, line_at, line_with, line_of, line_for}
use Rattle.card.specs.Kind.{type_of, type_in, decides, mode_in, kind_in}
use Rattle.card.specs.Places.{value_of, placed, station_in}
use Rattle.card.specs.Reading.{accepted, read_of}
use Rattle.card.specs.Good.{GoodLine, GoodCard}
use Rattle.card.proofs.Reordered.{Among, among}
use Rattle.card.proofs.Numbers.{no_length, nameless}
use Rattle.card.proofs.Laws.{good-read, accepted-good}

-- ---- lines in another order, by their numbers

module _ {a b : Card} (r : Among a b) where
  abbrev at : ℕ → ℕ
  at i = suc (r.to (i - 1))

  module _ (i : ℕ) (h : 1 ≤ i) (l : i ≤ length a) where
    at-inside : at i ≤ length b
    at-inside = r.inside (i - 1) (omega arith)

    at_same : line_at a i ≡ line_at b (at i)
    unfolding line_at
    at_same = let e : suc (i - 1) ≡ i = omega arith in ap (line_at a) (sym e) ∙ r.same (i - 1) (omega arith) []

  at-apart : (i j : ℕ) → 1 ≤ i → i ≤ length a → 1 ≤ j → j ≤ length a → at i ≡ at j → i ≡ j
  at-apart i j h l k m e = let same : i - 1 ≡ j - 1 = r.apart (i - 1) (j - 1) (omega arith) (omega arith) (omega arith) in omega arith

-- ---- a line that is the only one of its kind is found in any order

abbrev passing : (List ℕ → Bool) → Card → ℕ → Bool
passing test card i = test (word (line_at card i) 0)

-- no line but the first that passes does
abbrev Single : (List ℕ → Bool) → Card → Type 0
Single test card = (j : ℕ) → 1 ≤ j → j ≤ length card → passing test card j ≡ true → j ≡ line_with test card

module _ (test : List ℕ → Bool) (card : Card) where
  -- a line that passes is found, or one before it
  found : (j : ℕ) → 1 ≤ j → j ≤ length card → passing test card j ≡ true → 1 ≤ line_with test card
  unfolding line_with
  found j h l t = let e : suc (j - 1) ≡ j = omega arith in omega (arith, (least_first (passing test card) (length card) (j - 1) (rw e t) (omega arith)).0)

  found_passes : 1 ≤ line_with test card → passing test card (line_with test card) ≡ true
  unfolding line_with
  found_passes h = least_passes (passing test card) (length card) h

  found_inside : line_with test card ≤ length card
  unfolding line_with
  found_inside = least-le (passing test card) (length card)

module _ {card other : Card} (r : Among other card) (s : Among card other) (test : List ℕ → Bool) (single : Single test card) where
  abbrev here : ℕ
  here = line_with test card

  abbrev there : ℕ
  there = line_with test other

  -- what passes in the other order is the one line
  moves_to : (j : ℕ) → 1 ≤ j → j ≤ length other → passing test other j ≡ true → at r j ≡ here
  moves_to j h l t = single (at r j) (omega arith) (at-inside r j h l) (ap (λ (line : Line). test (word line 0)) (sym (at_same r j h l)) ∙ t)

  single-there : Single test other
  single-there j h l t =
      let some = found test other j h l t in
      at-apart r j there h l some (found_inside test other) (moves_to j h l t ∙ sym (moves_to there some (found_inside test other) (found_passes test other some)))

  none-there : there ≡ 0 → here ≡ 0
  none-there e =
      by_test (eqb here 0) (λ q. eqb-true here 0 q)
      (λ q.
      let z = eqb-false here 0 q in
      let t : passing test other (at s here) ≡ true = ap (λ (line : Line). test (word line 0)) (sym (at_same s here (omega (arith, z)) (found_inside test card))) ∙ found_passes test card (omega (arith, z)) in
      absurd (omega (arith, e, found test other (at s here) (omega arith) (at-inside s here (omega (arith, z)) (found_inside test card)) t)))

  pub same_line : line_at other there ≡ line_at card here
  unfolding line_at
  same_line =
      by_test (eqb there 0)
      (λ q. let e = eqb-true there 0 q in ap (line_at other) e ∙ sym (ap (line_at card) (none-there e)))
      (λ q.
      let z = eqb-false there 0 q in
      at_same r there (omega (arith, z)) (found_inside test other)
      ∙ ap (line_at card) (moves_to there (omega (arith, z)) (found_inside test other) (found_passes test other (omega (arith, z)))))

-- ---- in a good card each field has one line, and one line decides the mode

module _ (kind : Kind) (card : Card) (g : GoodCard kind card) where
  -- a line that names a field is a good one
  naming : (j : ℕ) → 1 ≤ j → j ≤ length card → 1 ≤ field_in (line_at card j) → GoodLine kind card j
  naming j h l k =
      g.lines j h l
      (by_test (eqb (length (line_at card j)) 0)
      (λ q. absurd (omega (arith, nameless, rw (no_length (line_at card j) (eqb-true _ _ q)) at k)))
      (λ q. omega (arith, eqb-false (length (line_at card j)) 0 q)))

  field_single : (f : ℕ) → 1 ≤ f → f ≤ FIELDS → Single (alike (name_of f)) card
  field_single f h l j low high t =
      let e = name_back f h l (word (line_at card j) 0) t in
      sym (rw e at (naming j low high (omega arith)).first)

  -- a line that decides: its field is the maximum gain of the kind's mode
  module _ (j : ℕ) (low : 1 ≤ j) (high : j ≤ length card) (t : passing (decides kind.iant) card j ≡ true) where
    gain : is_maximum_gain (field_in (line_at card j)) ≡ true
    unfolding decides
    gain = by_test (is_maximum_gain (field_in (line_at card j))) (λ q. q) (λ q. absurd (false≢true (rw q at t)))

    deciding : GoodLine kind card j
    deciding = naming j low high (omega (arith, gain-is _ gain))

    its_field : field_in (line_at card j) ≡ GAIN + kind.mode
    its_field = gain-is _ gain ∙ ap (λ (m : ℕ). GAIN + m) (gain-mode kind _ deciding.its gain)

    its-line : line_of card (GAIN + kind.mode) ≡ j
    its-line = rw its_field at deciding.first

  mode-single : Single (decides kind.iant) card
  mode-single j low high t =
      let test = decides kind.iant in
      let some = found test card j low high t in
      sym (its-line j low high t) ∙ its-line (line_with test card) some (found_inside test card) (found_passes test card some)

-- ---- a good card in another order

module _ {card other : Card} (r : Among other card) (s : Among card other) (g : GoodCard (kind_in card) card) where
  abbrev kind : Kind
  kind = kind_in card

  same_field : (f : ℕ) → 1 ≤ f → f ≤ FIELDS → line_for other f ≡ line_for card f
  same_field f h l = same_line r s (alike (name_of f)) (field_single kind card g f h l)

  -- its kind is the same
  same-type : type_in other ≡ type_in card
  unfolding type_in
  same-type = ap (λ (line : Line). type_of (word line 1)) (same_field TYPE (omega arith) (omega arith))

  same-mode : mode_in (type_in card) other ≡ mode_in (type_in card) card
  unfolding mode_in kind_in
  same-mode = ap (λ (line : Line). cond (eqb (type_in card) CURTAIN) 3 (mode_of (field_in line))) (same_line r s (decides kind.iant) (mode-single kind card g))

  same_kind : kind_in other ≡ kind
  unfolding kind_in
  same_kind = rw (same-type, same-mode)

  -- so is every place
  same_place : (p : ℕ) → placed kind other p ≡ placed kind card p
  unfolding placed
  same_place p =
      let f = (source_of kind p).field in
      by_test (eqb f 0) (λ q. rw q)
      (λ q. rw q (ap (λ (line : Line). value_of (word line (source_of kind p).number)) (same_field f (omega (arith, eqb-false f 0 q)) (source_field kind p))))

  same-reading : accepted kind other ≡ accepted kind card
  unfolding accepted station_in
  same-reading = ap reading (λ i p. same_place p i)
    where
      reading : (ℕ → Float) → Reading
      reading v = record { station = station_of kind.mode (filled_to v 56 56); mhz = v 56; design = v 57; elevation = v 58 }

  -- and it is a good one
  same_whole : (f : ℕ) → 1 ≤ f → f ≤ FIELDS → 1 ≤ line_of card f → 1 ≤ line_of other f
  same_whole f h l some =
      by_test (eqb (line_of other f) 0)
      (λ q. absurd (omega (arith, none-there r s (alike (name_of f)) (field_single kind card g f h l) (eqb-true (line_of other f) 0 q))))
      (λ q. omega (arith, eqb-false (line_of other f) 0 q))

  same-good-line : (i : ℕ) → 1 ≤ i → i ≤ length other → 1 ≤ length (line_at other i) → GoodLine kind other i
  unfolding field_of
  same-good-line i h l some =
      let e = at_same r i h l in
      let it = g.lines (at r i) (omega arith) (at-inside r i h l) (rw e at some) in
      let w = word (line_at other i) 0 in
      let known : 1 ≤ field_in (line_at other i) = rw e it.known in
      let single = field_single kind card g (field_of w) known (least-le (is_named w) FIELDS) in
      record {
        known = known;
        first = sym (single-there r s (alike (name_of (field_of w))) single i h l (least_passes (is_named w) FIELDS known));
        its = rw e it.its;
        numbers = rw e it.numbers;
      }

  same_good : GoodCard kind other
  same_good =
      record {
        lines = same-good-line;
        typed = same_whole TYPE (omega arith) (omega arith) g.typed;
        whole = λ f h l its. same_whole f h l (g.whole f h l its);
      }

-- an accepted card's lines in any other order read to the same station
pub order_free : (a b : List ℕ) {reading : Reading} → Permᴰ (card_of a) (card_of b) → read_of a ≡ Ok reading → read_of b ≡ read_of a
order_free a b p e =
    let r = among (Permᴰ.symm p) in
    let s = among p in
    let g = accepted-good a e in
    let k = same_kind r s g in
    good-read b (rw k (same_good r s g)) ∙ ap (λ (kind : Kind). Ok (accepted kind (card_of b))) k ∙ ap Ok (same-reading r s g) ∙ sym (good-read a g)
