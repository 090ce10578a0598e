-- What each answer of a step makes of the card. Assumes nothing.
use mathlib.Core.Path.{◌≡◌, refl, sym, ap, ◌∙◌}
use mathlib.Core.Bool.{true, false}
use mathlib.Core.List.{List}
use Prim.Native.Nat.{ℕ}
use lib.ListN.{length, take}
use borrow.Author.Tests.{eq-eqb, ne_eqb}
use Rattle.answers.specs.Outcome.{Outcome, refused, accepted, outcome}
use Rattle.answers.specs.declared.Refusal.{Refusal}
use Rattle.answers.specs.Refusals.{RECORD}
use Rattle.lines.specs.Alike.{alike}
use Rattle.station.specs.Answers as station
use Rattle.std.specs.Prelude.{Result, Ok, Err}
use Rattle.station.specs.declared.Station.{Station}
use Rattle.card.specs.declared.NoStation.{NoStation}
use Rattle.card.specs.declared.Reading.{Reading}
use Rattle.card.specs.declared.mistakes.Mistake.{Mistake}
use Rattle.card.specs.Reading.{read_of, mistaken, written, written_of}
use Rattle.card_back.specs.Text.{kind_of, place_in, text_of}
use Rattle.card_back.specs.Back.{makes, reads, read_back, finite_end, station_card, record_card, card_of, delivered_to, back_of}

-- ---- the text read back, with 237 bytes lent

module _ (text lent made bytes : List ℕ) (len : length lent ≡ 237) where
  pub reads-accepted : ◌≡◌ {A = Result (Unit {0}) NoStation × List ℕ} (Ok tt, made) (written_of text lent) → alike made bytes ≡ reads text bytes
  unfolding written_of reads
  reads-accepted e = go (read_of text) (e ∙ rw (eq-eqb (length lent) 237 len))
    where
      go : (r : Result Reading Mistake) → ◌≡◌ {A = Result (Unit {0}) NoStation × List ℕ} (Ok tt, made) (written r lent) → alike made bytes ≡ makes r bytes
      go (Ok r) q = ap (λ (p : Result (Unit {0}) NoStation × List ℕ). alike p.1 bytes) q
      go (Err m) q = let answered : ◌≡◌ {A = Result (Unit {0}) NoStation} (Ok tt) (Err (mistaken m)) = ap (λ (p : Result (Unit {0}) NoStation × List ℕ). p.0) q in cc

  pub reads_other : (n : NoStation) → ◌≡◌ {A = Result (Unit {0}) NoStation × List ℕ} (Err n, made) (written_of text lent) → false ≡ reads text bytes
  unfolding written_of reads
  reads_other n e = go (read_of text) (e ∙ rw (eq-eqb (length lent) 237 len))
    where
      go : (r : Result Reading Mistake) → ◌≡◌ {A = Result (Unit {0}) NoStation × List ℕ} (Err n, made) (written r lent) → false ≡ makes r bytes
      go (Ok r) q = let answered : ◌≡◌ {A = Result (Unit {0}) NoStation} (Err n) (Ok tt) = ap (λ (p : Result (Unit {0}) NoStation × List ℕ). p.0) q in cc
      go (Err m) q = refl

-- ---- the station

module _ (bytes lent : List ℕ) where
  pub not-long : (length bytes ≡ 237 → ⊥) → ◌≡◌ {A = Outcome ℕ × List ℕ} (refused RECORD, lent) (back_of bytes lent)
  unfolding back_of card_of delivered_to
  not-long h = rw (ne_eqb (length bytes) 237 h)

  module _ (len : length bytes ≡ 237) where
    pub no_record : (r : Result Station Refusal) → ((s : Station) → r ≡ Ok s → ⊥) → outcome r ≡ station.read_of (take 225 bytes)
        → ◌≡◌ {A = Outcome ℕ × List ℕ} (refused RECORD, lent) (back_of bytes lent)
    unfolding back_of card_of record_card delivered_to
    no_record (Ok s) none answered = absurd (none s refl)
    no_record (Err k) none answered = rw (eq-eqb (length bytes) 237 len, ← answered)

    module _ (s : Station) (answered : accepted s ≡ station.read_of (take 225 bytes)) where
      of_station : back_of bytes lent ≡ delivered_to lent (station_card s bytes)
      unfolding back_of card_of record_card
      of_station = rw (eq-eqb (length bytes) 237 len, ← answered)

      pub no_number : finite_end bytes ≡ false → ◌≡◌ {A = Outcome ℕ × List ℕ} (refused RECORD, lent) (back_of bytes lent)
      unfolding station_card delivered_to
      no_number f = sym (of_station ∙ rw f)

      pub station_delivered : finite_end bytes ≡ true → back_of bytes lent ≡ delivered_to lent (read_back (text_of (kind_of s) (place_in s bytes)) bytes)
      unfolding station_card
      station_delivered f = of_station ∙ rw f
