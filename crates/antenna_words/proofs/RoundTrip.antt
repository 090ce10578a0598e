-- Reading an antenna record's words gives the record back. Assumes nothing.
use mathlib.Core.Path.{◌≡◌, refl, ap, ◌∙◌}
use mathlib.Core.Bool.{Bool, true, false, not}
use mathlib.Core.List.{List, [], ◌∷◌, map}
use Prim.Native.Nat.{ℕ, suc, ◌^◌, ◌<◌}
use native.Mathlib.Nat.{mod-eq_of_lt}
use lib.ListN.{length, get_or, length-map}
use lib.Dec.{eqb}
use Rattle.antenna.specs.declared.record.Antenna.{Antenna}
use Rattle.words.specs.Patterns.{floats, part}
use Rattle.antenna_words.specs.Fields.{antenna_size, low, flag, constant_floats, joined, head_fields, element_fields, trig_fields, ground_fields, peak_fields, antenna_fields, antenna_words}
use Rattle.antenna_words.specs.Reading.{constants_of, elements_of, trig_of, ground_of, peak_of, antenna_of, antenna_in}
use Rattle.antenna_words.specs.Held.{Held, CountsAreWords}
use Rattle.antenna_words.proofs.Lengths.{bits_length}
use Rattle.antenna_words.proofs.Places.{total, joined_length, field, floats_field, word_field}

abbrev sizes : List ℕ
sizes = 2 ∷ 16 ∷ 36 ∷ 36 ∷ 36 ∷ 36 ∷ 36 ∷ 36 ∷ 31 ∷ 1 ∷ 91 ∷ 91 ∷ 91 ∷ 91 ∷ 91 ∷ 91 ∷ 91 ∷ 91 ∷ 3 ∷ 1 ∷ []

sized : (a : Antenna) → Held a → map length (antenna_fields a) ≡ sizes
unfolding head_fields element_fields trig_fields ground_fields peak_fields antenna_fields
sized a h =
    let e = h.elements in
    let t = h.trig in
    let g = h.ground in
    rw (bits_length a.model.elements.fi, e.fi.long, bits_length a.model.elements.rim, e.rim.long, bits_length a.model.elements.x, e.x.long, bits_length a.model.elements.y, e.y.long, length-map a.model.elements.iek low, e.iek, bits_length a.model.elements.rl, e.rl.long, bits_length a.model.elements.h, e.h.long, bits_length a.model.trig.a, t.a.long, bits_length a.model.trig.b, t.b.long, bits_length a.model.ground.w3, g.w3.long, bits_length a.model.ground.w4, g.w4.long, bits_length a.model.ground.w5, g.w5.long, bits_length a.model.ground.w6, g.w6.long, bits_length a.model.ground.w9, g.w9.long, bits_length a.model.ground.w10, g.w10.long)

pub words-length : (a : Antenna) → Held a → length (antenna_words a) ≡ antenna_size
unfolding antenna_words
words-length a h = joined_length (antenna_fields a) ∙ ap total (sized a h)

same_counts : (ns : List ℕ) → ((k : ℕ) → get_or ns k 0 < 2 ^ 32) → map low ns ≡ ns
same_counts [] f = refl
same_counts (n ∷ ns) f = rw (mod-eq_of_lt (f 0), same_counts ns (λ k. f (suc k)))

read-flag : (b : Bool) → not (eqb (flag b) 0) ≡ b
read-flag true = refl
read-flag false = refl

module _ (a : Antenna) (h : Held a) (n : CountsAreWords a) where
  abbrev fs : List (List ℕ)
  fs = antenna_fields a

  elements-back : elements_of (antenna_words a) (floats (antenna_words a)) ≡ a.model.elements
  unfolding elements_of antenna_words antenna_fields head_fields element_fields trig_fields ground_fields peak_fields
  elements-back =
      let e = a.model.elements in
      let f = h.elements in
      let s = sized a h in
      rw (floats_field fs s 2 e.fi refl f.fi.each, floats_field fs s 3 e.rim refl f.rim.each, floats_field fs s 4 e.x refl f.x.each, floats_field fs s 5 e.y refl f.y.each, field fs s 6, floats_field fs s 7 e.rl refl f.rl.each, floats_field fs s 8 e.h refl f.h.each, word_field fs s 9 refl, mod-eq_of_lt n.nat, same_counts e.iek n.iek)

  trig-back : trig_of (floats (antenna_words a)) ≡ a.model.trig
  unfolding trig_of antenna_words antenna_fields head_fields element_fields trig_fields ground_fields peak_fields
  trig-back =
      let t = a.model.trig in
      let s = sized a h in
      rw (floats_field fs s 10 t.a refl h.trig.a.each, floats_field fs s 11 t.b refl h.trig.b.each)

  ground-back : ground_of (floats (antenna_words a)) ≡ a.model.ground
  unfolding ground_of antenna_words antenna_fields head_fields element_fields trig_fields ground_fields peak_fields
  ground-back =
      let g = a.model.ground in
      let f = h.ground in
      let s = sized a h in
      rw (floats_field fs s 12 g.w3 refl f.w3.each, floats_field fs s 13 g.w4 refl f.w4.each, floats_field fs s 14 g.w5 refl f.w5.each, floats_field fs s 15 g.w6 refl f.w6.each, floats_field fs s 16 g.w9 refl f.w9.each, floats_field fs s 17 g.w10 refl f.w10.each)

  constants-back : constants_of (part (floats (antenna_words a)) 2 16) ≡ a.model.constants
  unfolding constants_of antenna_words antenna_fields head_fields element_fields trig_fields ground_fields peak_fields
  constants-back = rw (floats_field fs (sized a h) 1 (constant_floats a.model.constants) refl h.constants)

  peak-back : peak_of (part (floats (antenna_words a)) 994 3) ≡ a.peak
  unfolding peak_of antenna_words antenna_fields head_fields element_fields trig_fields ground_fields peak_fields
  peak-back = rw (floats_field fs (sized a h) 18 (a.peak.z6 ∷ a.peak.umax ∷ a.peak.vmax ∷ []) refl h.peak)

  first_word : get_or (antenna_words a) 0 0 ≡ a.model.iant
  unfolding joined antenna_words antenna_fields head_fields
  first_word = refl

  second_word : get_or (antenna_words a) 1 0 ≡ flag a.model.slewed
  unfolding joined antenna_words antenna_fields head_fields
  second_word = refl

  sum_back : get_or (antenna_words a) 997 0 ≡ a.sum
  unfolding antenna_words antenna_fields head_fields element_fields trig_fields ground_fields peak_fields
  sum_back = word_field fs (sized a h) 19 refl

  pub antenna_in_words : antenna_in (antenna_words a) ≡ a
  unfolding antenna_of antenna_in
  antenna_in_words = rw (first_word, second_word, read-flag a.model.slewed, constants-back, elements-back, trig-back, ground-back, peak-back, sum_back)
