-- Whatever the card, its station's floats are finite and its mode is at most 3: the record's writer takes it. Assumes nothing.
use mathlib.Core.Path.{◌≡◌, refl, ap, subst, ◌∙◌}
use mathlib.Core.Bool.{Bool, true, false, cond, ◌&&◌}
use mathlib.Core.List.{List}
use Prim.Native.Nat.{ℕ, zero, suc, ◌^◌, ◌≤◌}
use native.Mathlib.Nat.{le_refl}
use native.Mathlib.Omega.{arith}
use lib.Dec.{eqb, leb, ltb}
use lib.ListN.{length}
use lib.Ieee.{Float, neg, binary32, of_bits, round}
use lib.Ieee.Scale.{finite}
use Rattle.std.specs.Prelude.{Option, Some, None, Result, Ok, Err}
use Rattle.decimal.specs.declared.NotRead.TheVariants.{TooLarge, NotANumber}
use Rattle.decimal.specs.Word.{is_negative, signless, is_decimal, numerator, fraction}
use Rattle.decimal.specs.Reading as decimal
use Rattle.floats.specs.Ranges.{finite_to, all_finite}
use Rattle.floats.specs.Filled.{filled_to}
use Rattle.floats.proofs.Filled.{filled-length, filled_at}
use Rattle.station.specs.Record.{floats_of}
use Rattle.station.proofs.Arrays.{floats-back}
use Rattle.fields.specs.declared.Kind.{Kind}
use Rattle.fields.specs.Table.{CURTAIN, mode_of, source_of}
use Rattle.card.specs.Card.{Card, card_of, word, line_for}
use Rattle.card.specs.Kind.{is_curtain, mode_in, kind_in}
use Rattle.card.specs.Places.{read_value, twelve, value_of, no_factor, unnamed, placed, station_in}
use Rattle.card.specs.declared.mistakes.Mistake.{Mistake}
use Rattle.card.specs.declared.Reading.{Reading}
use Rattle.card.specs.Mistakes.{card_mistake}
use Rattle.card.specs.Reading.{accepted, unless, read_card, read_of}
use Rattle.card.specs.Inner.{Writable}

-- ---- every place is finite

either : (b : Bool) (x y : Float) → finite x ≡ true → finite y ≡ true → finite (cond b x y) ≡ true
either true x y f g = f
either false x y f g = g

read-finite : (w : List ℕ) → finite (read_value (decimal.read_of w)) ≡ true
unfolding decimal.read_of read_value of_bits
read-finite w = go (is_decimal (signless w)) (round binary32 (is_negative w) (numerator (signless w)) (10 ^ length (fraction (signless w))))
  where
    held : (t : Bool) (x : Float) → finite x ≡ t → finite (read_value (cond t (Ok x) (Err TooLarge))) ≡ true
    held true x e = e
    held false x e = refl

    go : (d : Bool) (x : Float) → finite (read_value (cond d (cond (finite x) (Ok x) (Err TooLarge)) (Err NotANumber))) ≡ true
    go true x = held (finite x) x refl
    go false x = refl

value-finite : (w : List ℕ) → finite (value_of w) ≡ true
unfolding value_of of_bits
value-finite w = either (is_curtain w) twelve (read_value (decimal.read_of w)) refl (read-finite w)

unnamed-finite : (kind : Kind) (p : ℕ) → finite (unnamed kind p) ≡ true
unfolding unnamed of_bits neg
unnamed-finite kind p = either (eqb kind.iant CURTAIN && leb 26 p && ltb p 56) no_factor (of_bits binary32 0) refl refl

pub placed-finite : (kind : Kind) (card : Card) (p : ℕ) → finite (placed kind card p) ≡ true
unfolding placed
placed-finite kind card p =
    let s = source_of kind p in
    let w = word (line_for card s.field) s.number in
    either (eqb s.field 0) (unnamed kind p) (value_of w) (unnamed-finite kind p) (value-finite w)

-- ---- so are all floats of the station

filled-finite : (v : ℕ → Float) → ((p : ℕ) → finite (v p) ≡ true) → (size n : ℕ) → n ≤ size → finite_to (filled_to v size size) n ≡ true
unfolding finite_to
filled-finite v f size zero h = refl
filled-finite v f size (suc n) h = rw (filled-finite v f size n (omega arith), filled_at v size size n (le_refl size) h) (f n)

station-finite : (kind : Kind) (card : Card) → all_finite (floats_of (station_in kind card)) ≡ true
unfolding station_in all_finite
station-finite kind card =
    let v = placed kind card in
    ap all_finite (floats-back kind.mode (filled_to v 56 56))
    ∙ ap (finite_to (filled_to v 56 56)) (filled-length v 56 56)
    ∙ filled-finite v (placed-finite kind card) 56 56 (le_refl 56)

-- ---- the mode

mode_of_le : (f : ℕ) → mode_of f ≤ 2
unfolding mode_of
mode_of_le f = go (eqb f _) (eqb f _)
  where
    go : (a b : Bool) → cond a 1 (cond b 2 0) ≤ 2
    go true b = omega arith
    go false true = omega arith
    go false false = omega arith

pub mode-le : (iant : ℕ) (card : Card) → mode_in iant card ≤ 3
unfolding mode_in
mode-le iant card = go (eqb iant _) (mode_of_le _)
  where
    go : (a : Bool) {m : ℕ} → m ≤ 2 → cond a 3 m ≤ 3
    go true h = omega arith
    go false h = omega arith

-- ---- a reading

same : {E : Type 0} {a b : Reading} → ◌≡◌ {A = Result Reading E} (Ok a) (Ok b) → a ≡ b
same e = cc

pub read_writable : (text : List ℕ) {r : Reading} → read_of text ≡ Ok r → Writable r
unfolding read_of read_card accepted station_in kind_in
read_writable text e = go (card_mistake (kind_in (card_of text)) (card_of text)) e
  where
    go : {r : Reading} (m : Option Mistake) → unless m (accepted (kind_in (card_of text)) (card_of text)) ≡ Ok r → Writable r
    go None q = subst Writable (same q) (record { finite = station-finite (kind_in (card_of text)) (card_of text); mode = mode-le _ (card_of text) })
    go (Some m) q = cc
