-- What is proved of a card written back, beside that the code writes it. Assumes nothing.
use mathlib.Core.Path.{◌≡◌, refl, ap}
use mathlib.Core.Bool.{Bool, true, false, cond, false≢true}
use mathlib.Core.List.{List}
use Prim.Native.Nat.{ℕ, ◌≤◌}
use native.Mathlib.Omega.{arith}
use lib.Dec.{eqb, ltb}
use lib.ListN.{length, take}
use borrow.Author.Tests.{eq-eqb, ltb-false}
use Rattle.answers.specs.Outcome.{Outcome, refused, accepted}
use Rattle.answers.specs.Refusals.{RECORD, SPACE}
use Rattle.words.specs.Laid.{laid}
use Rattle.words.proofs.Laid.{laid-length}
use Rattle.lines.proofs.Laws.{alike_equal}
use Rattle.station.specs.declared.Station.{Station}
use Rattle.station.specs.Answers as station
use Rattle.std.specs.Prelude.{Result, Ok, Err}
use Rattle.card.specs.declared.Reading.{Reading}
use Rattle.card.specs.declared.mistakes.Mistake.{Mistake}
use Rattle.card.specs.Reading.{read_of, bytes_of, written, written_of}
use Rattle.card_back.specs.Text.{kind_of, place_in, text_of}
use Rattle.card_back.specs.Back.{makes, reads, read_back, finite_end, station_card, record_card, card_of, delivered_to, back_of}
use Rattle.card_back.proofs.Lengths.{card_length}

-- ---- what is accepted passed every test

chosen : {A : Type 0} (b : Bool) (o : Outcome A) {x : A} → cond b o (refused RECORD) ≡ accepted x → (b ≡ true) × (o ≡ accepted x)
chosen true o e = (refl, e)
chosen false o e = let z : ◌≡◌ {A = ℕ} 0 1 = cc in absurd (omega arith)

same_text : {s t : List ℕ} → accepted s ≡ accepted t → s ≡ t
same_text e = cc

-- the text of the bytes' station, which reads to the bytes
pub record IsCard (bytes text : List ℕ) : Type 0 where
  pub station : Station
  pub its_text : text_of (kind_of station) (place_in station bytes) ≡ text
  pub back : reads text bytes ≡ true

module _ (bytes text : List ℕ) where
  of_station : (s : Station) → station_card s bytes ≡ accepted text → IsCard bytes text
  unfolding station_card read_back
  of_station s e =
      let read = chosen (reads (text_of (kind_of s) (place_in s bytes)) bytes) _ (chosen (finite_end bytes) _ e).1 in
      let same = same_text read.1 in
      record { station = s; its_text = same; back = rw same at read.0 }

  of_record : (a : Outcome Station) → record_card a bytes ≡ accepted text → IsCard bytes text
  unfolding record_card
  of_record (refused n) e = let z : ◌≡◌ {A = ℕ} 0 1 = cc in absurd (omega arith)
  of_record (accepted s) e = of_station s e

  pub card_only : card_of bytes ≡ accepted text → IsCard bytes text
  unfolding card_of
  card_only e = of_record (station.read_of (take 225 bytes)) (chosen (eqb (length bytes) 237) _ e).1

-- ---- a card that is written reads to the bytes that it was written from, over any 237 bytes that are lent
pub written-reads : (bytes text : List ℕ) → card_of bytes ≡ accepted text → (lent : List ℕ) → length lent ≡ 237 → written_of text lent ≡ (Ok tt, bytes)
unfolding reads written_of
written-reads bytes text e lent len = rw (eq-eqb (length lent) 237 len) (go (read_of text) (card_only bytes text e).back)
  where
    go : (r : Result Reading Mistake) → makes r bytes ≡ true → written r lent ≡ (Ok tt, bytes)
    go (Ok r) h = ap (λ (l : List ℕ). (Ok tt, l)) (alike_equal (bytes_of r) bytes h)
    go (Err m) h = absurd (false≢true h)

-- ---- a card has 6,228 bytes at most, so what is written lies in the lent bytes
pub card_short : (bytes text : List ℕ) → card_of bytes ≡ accepted text → length text ≤ 6228
card_short bytes text e = let c = card_only bytes text e in rw (← c.its_text) (card_length (kind_of c.station) (place_in c.station bytes))

pub written-within : (bytes lent left : List ℕ) (n : ℕ) → ◌≡◌ {A = Outcome ℕ × List ℕ} (accepted n, left) (back_of bytes lent) → n ≤ length left
unfolding back_of delivered_to
written-within bytes lent left n e = go (card_of bytes) refl e
  where
    never : (m : ℕ) → ◌≡◌ {A = Outcome ℕ × List ℕ} (accepted n, left) (refused m, lent) → ⊥
    never m q =
        let answered : accepted n ≡ refused m = ap (λ (p : Outcome ℕ × List ℕ). p.0) q in
        let z : ◌≡◌ {A = ℕ} 0 1 = cc in
        omega arith

    in_room_lem : (b : Bool) (text : List ℕ) → ltb (length lent) 8192 ≡ b → length text ≤ 6228
        → ◌≡◌ {A = Outcome ℕ × List ℕ} (accepted n, left) (cond b (refused SPACE, lent) (accepted (length text), laid lent 0 text)) → n ≤ length left
    in_room_lem true text t h q = absurd (never SPACE q)
    in_room_lem false text t h q =
        let room = ltb-false (length lent) 8192 t in
        let answered : accepted n ≡ accepted (length text) = ap (λ (p : Outcome ℕ × List ℕ). p.0) q in
        let same : n ≡ length text = cc in
        let l : left ≡ laid lent 0 text = ap (λ (p : Outcome ℕ × List ℕ). p.1) q in
        rw (l, laid-length lent 0 text (omega arith)) (omega arith)

    go : (o : Outcome (List ℕ)) → card_of bytes ≡ o → ◌≡◌ {A = Outcome ℕ × List ℕ} (accepted n, left) (delivered_to lent o) → n ≤ length left
    go (refused m) p q = absurd (never m q)
    go (accepted text) p q = in_room_lem (ltb (length lent) 8192) text refl (card_short bytes text p) q
