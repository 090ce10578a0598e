-- The reader accepts the good cards, and no others. Assumes nothing.
use mathlib.Core.Path.{◌≡◌, refl, sym, ◌∙◌}
use mathlib.Core.Bool.{true, false, cond, ◌&&◌, true≢false}
use Prim.Native.Nat.{ℕ, suc, ◌-◌, ◌≤◌, ◌<◌}
use native.Mathlib.Omega.{arith}
use Rattle.std.specs.Prelude.{Option, Some, None, is_some}
use lib.Dec.{eqb, ltb}
use lib.ListN.{length}
use borrow.Author.Tests.{eqb-true, eqb-false, eq-eqb, ne_eqb, ltb-false, le-ltb}
use Rattle.lines.specs.Alike.{alike}
use Rattle.fields.specs.declared.Kind.{Kind}
use Rattle.fields.specs.Least.{least}
use Rattle.fields.specs.Names.{TYPE, FIELDS, name_of, is_named, field_of}
use Rattle.fields.specs.Table.{has_field, count_of}
use Rattle.fields.proofs.Least.{by_test, least_passes, least-none, least_first, least-all, least-le}
use Rattle.card.specs.declared.mistakes.Fault.{Fault}
use Rattle.card.specs.declared.mistakes.Mistake.{Mistake}
use Rattle.card.specs.Card.{Line, Card, word, field_in, line_at, line_with, line_of}
use Rattle.card.specs.Mistake.{told, or_else}
use Rattle.card.specs.Mistakes.{word_fault, is_bad, first_bad, field_fault, mistake_in, is_wrong, first_mistake, type_mistake, is_missing, first_missing, missing_field, card_mistake}
use Rattle.card.specs.Good.{GoodLine, GoodCard}

none : {A : Type 0} (o : Option A) → is_some o ≡ false → o ≡ None
none None e = refl
none (Some x) e = absurd (true≢false e)

-- where the first mistake or else the second is none, neither is one
neither : (m n : Option Mistake) → is_some (or_else m n) ≡ false → (is_some m ≡ false) × (is_some n ≡ false)
neither None n e = (refl, e)
neither (Some m) n e = absurd (true≢false e)

both : (m n : Option Mistake) → is_some m ≡ false → is_some n ≡ false → is_some (or_else m n) ≡ false
both None n e f = f
both (Some m) n e f = absurd (true≢false e)

-- what is told is a mistake where something is wrong
told_as : (i f k : ℕ) (w : Option Fault) → is_some (told i f k w) ≡ is_some w
told_as i f k None = refl
told_as i f k (Some w) = refl

module _ (kind : Kind) (card : Card) where
  -- ---- a line

  -- a line that names a field begins with its name, so the field's first line isn't after it
  own_name : (i : ℕ) → 1 ≤ i → i ≤ length card → 1 ≤ field_in (line_at card i)
      → (1 ≤ line_of card (field_in (line_at card i))) × (line_of card (field_in (line_at card i)) ≤ i)
  unfolding line_with field_of
  own_name i h l k =
      let f = field_in (line_at card i) in
      let e : suc (i - 1) ≡ i = omega arith in
      let named : alike (name_of f) (word (line_at card i) 0) ≡ true = least_passes (is_named (word (line_at card i) 0)) FIELDS k in
      let found = least_first (λ (j : ℕ). alike (name_of f) (word (line_at card j) 0)) (length card) (i - 1) (rw e named) (omega arith) in
      (omega (arith, found.0), omega (arith, found.1))

  -- the tests of a line's field, one by one
  module _ (i : ℕ) where
    abbrev line : Line
    line = line_at card i

    abbrev f : ℕ
    f = field_in line

    abbrev n : ℕ
    n = length line - 1

    record RightField : Type 0 where
      known : eqb f 0 ≡ false
      first : ltb (line_of card f) i ≡ false
      its : has_field kind f ≡ true
      enough : ltb n (count_of kind f) ≡ false
      no_more : ltb (count_of kind f) n ≡ false

    right_field : is_some (field_fault kind card i) ≡ false → RightField
    unfolding field_fault
    right_field e =
        let a : eqb f 0 ≡ false = by_test (eqb f 0) (λ q. absurd (true≢false (rw q at e))) (λ q. q) in
        let b : ltb (line_of card f) i ≡ false = by_test (ltb (line_of card f) i) (λ q. absurd (true≢false (rw (a, q) at e))) (λ q. q) in
        let c : has_field kind f ≡ true = by_test (has_field kind f) (λ q. q) (λ q. absurd (true≢false (rw (a, b, q) at e))) in
        let d : ltb n (count_of kind f) ≡ false = by_test (ltb n (count_of kind f)) (λ q. absurd (true≢false (rw (a, b, c, q) at e))) (λ q. q) in
        let g : ltb (count_of kind f) n ≡ false = by_test (ltb (count_of kind f) n) (λ q. absurd (true≢false (rw (a, b, c, d, q) at e))) (λ q. q) in
        record { known = a; first = b; its = c; enough = d; no_more = g }

    field_right : RightField → field_fault kind card i ≡ None
    unfolding field_fault
    field_right r = rw (r.known, r.first, r.its, r.enough, r.no_more)

    -- a line with words in it is right where its field and its numbers are
    right_line : 1 ≤ length line → is_wrong kind card i ≡ false → (is_some (field_fault kind card i) ≡ false) × (first_bad kind line ≡ 0)
    unfolding mistake_in first_bad
    right_line h e =
        let k = first_bad kind line in
        let wrong = word_fault kind f k (word line k) in
        let one = neither (told i f 0 (field_fault kind card i)) (cond (eqb k 0) None (told i f k wrong)) (rw (ne_eqb (length line) 0 (λ z. omega arith)) at e) in (
          sym (told_as i f 0 (field_fault kind card i)) ∙ one.0,
          by_test (eqb k 0) (λ q. eqb-true k 0 q) (λ q.
              let z = eqb-false k 0 q in
              absurd (true≢false (sym (least_passes (is_bad kind line) n (omega (arith, z))) ∙ (sym (told_as i f k wrong) ∙ rw q at one.1)))),
        )

    line_right : is_some (field_fault kind card i) ≡ false → first_bad kind line ≡ 0 → is_wrong kind card i ≡ false
    unfolding mistake_in
    line_right e k = by_test (eqb (length line) 0) (λ q. rw q) (λ q. rw (q, none (field_fault kind card i) e, k))

  -- ---- what a line that isn't wrong is

  good_line : (i : ℕ) → 1 ≤ i → i ≤ length card → 1 ≤ length (line_at card i) → is_wrong kind card i ≡ false → GoodLine kind card i
  unfolding first_bad
  good_line i h l some e =
      let parts = right_line i some e in
      let r = right_field i parts.0 in
      let known : 1 ≤ f i = omega (arith, eqb-false (f i) 0 r.known) in
      let own = own_name i h l known in
      let same : n i ≡ count_of kind (f i) = omega (arith, ltb-false (n i) (count_of kind (f i)) r.enough, ltb-false (count_of kind (f i)) (n i) r.no_more) in
      let right : (k : ℕ) → 1 ≤ k → k ≤ count_of kind (f i) → word_fault kind (f i) k (word (line i) k) ≡ None = λ k low high.
      let e : suc (k - 1) ≡ k = omega arith in
      none _ (rw e at (least-none (is_bad kind (line i)) (n i) parts.1 (k - 1) (omega arith))) in
      record {
        known = known;
        first = omega (arith, own.1, ltb-false (line_of card (f i)) i r.first);
        its = r.its;
        numbers = record { counted = omega arith; right = right };
      }

  -- ---- and back

  right_of_good : (i : ℕ) → GoodLine kind card i → is_wrong kind card i ≡ false
  unfolding first_bad
  right_of_good i g =
      let same : n i ≡ count_of kind (f i) = omega (arith, g.numbers.counted) in
      let r : RightField i = record {
        known = ne_eqb (f i) 0 (λ z. omega (arith, g.known));
        first = le-ltb (line_of card (f i)) i (omega (arith, g.first));
        its = g.its;
        enough = le-ltb (n i) (count_of kind (f i)) (omega arith);
        no_more = le-ltb (count_of kind (f i)) (n i) (omega arith);
      } in
      line_right i (rw (field_right i r)) (least-all (is_bad kind (line i)) (n i) (λ k h. rw (g.numbers.right (suc k) (omega arith) (omega arith))))

  empty_right : (i : ℕ) → length (line_at card i) ≡ 0 → is_wrong kind card i ≡ false
  unfolding mistake_in
  empty_right i e = rw (eq-eqb _ _ e)

  -- ---- a card

  line_0_right : is_wrong kind card 0 ≡ false
  unfolding line_at
  line_0_right = empty_right 0 refl

  -- an accepted card is a good one
  pub good_card : is_some (card_mistake kind card) ≡ false → GoodCard kind card
  unfolding card_mistake first_mistake type_mistake missing_field first_missing
  good_card e =
      let one = neither (type_mistake kind card) (or_else (first_mistake kind card) (missing_field kind card)) e in
      let two = neither (first_mistake kind card) (missing_field kind card) one.1 in
      let wrong = least (is_wrong kind card) (length card) in
      let missing = least (is_missing kind card) FIELDS in
      let t = line_of card TYPE in
      let none-wrong : wrong ≡ 0 =
      by_test (eqb wrong 0) (λ q. eqb-true wrong 0 q) (λ q. let z = eqb-false wrong 0 q in absurd (true≢false (sym (least_passes (is_wrong kind card) (length card) (omega (arith, z))) ∙ two.0))) in
      let none-missing : missing ≡ 0 = by_test (eqb missing 0) (λ q. eqb-true missing 0 q) (λ q. absurd (true≢false (rw q at two.1))) in
      let typed : eqb t 0 ≡ false = by_test (eqb t 0) (λ q. absurd (true≢false (rw q at one.0))) (λ q. q) in
      record {
        lines = λ i h l some.
            let s : suc (i - 1) ≡ i = omega arith in
            good_line i h l some (rw s at (least-none (is_wrong kind card) (length card) none-wrong (i - 1) (omega arith)));
        typed = omega (arith, eqb-false t 0 typed);
        whole = λ f h l its.
            let s : suc (f - 1) ≡ f = omega arith in
            let there : (has_field kind f && eqb (line_of card f) 0) ≡ false = rw s at (least-none (is_missing kind card) FIELDS none-missing (f - 1) (omega arith)) in
            omega (arith, eqb-false (line_of card f) 0 (rw its at there));
      }

  -- and every good card is accepted
  module _ (g : GoodCard kind card) where
    all_right : (i : ℕ) → 1 ≤ i → i ≤ length card → is_wrong kind card i ≡ false
    all_right i h l =
        by_test (eqb (length (line_at card i)) 0)
        (λ q. empty_right i (eqb-true (length (line_at card i)) 0 q))
        (λ q. let z = eqb-false (length (line_at card i)) 0 q in right_of_good i (g.lines i h l (omega (arith, z))))

    type_right : is_some (type_mistake kind card) ≡ false
    unfolding type_mistake line_with
    type_right =
        let t = line_of card TYPE in
        rw (ne_eqb t 0 (λ z. omega (arith, g.typed))) (all_right t g.typed (least-le (λ (i : ℕ). alike (name_of TYPE) (word (line_at card i) 0)) (length card)))

    first_right : is_some (first_mistake kind card) ≡ false
    unfolding first_mistake
    first_right = rw (least-all (is_wrong kind card) (length card) (λ i h. all_right (suc i) (omega arith) (omega arith))) line_0_right

    missing_right : is_some (missing_field kind card) ≡ false
    unfolding missing_field first_missing
    missing_right = rw (least-all (is_missing kind card) FIELDS there)
      where
        there : (i : ℕ) → i < FIELDS → is_missing kind card (suc i) ≡ false
        there i h = by_test (has_field kind (suc i)) (λ q. rw (q, ne_eqb (line_of card (suc i)) 0 (λ z. omega (arith, g.whole (suc i) (omega arith) (omega arith) q)))) (λ q. rw q)

    pub good-accepted : is_some (card_mistake kind card) ≡ false
    unfolding card_mistake
    good-accepted = both (type_mistake kind card) _ type_right (both (first_mistake kind card) _ first_right missing_right)
