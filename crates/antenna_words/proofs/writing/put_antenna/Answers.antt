-- `put_antenna`: the parts fill the words, and they are read back.
use mathlib.Core.Path.{◌≡◌, refl, ap, ◌∙◌}
use Prim.Native.Nat.{ℕ}
use mathlib.Core.List.{List, [], ◌∷◌, ◌++◌, append_assoc, append-nil}
use native.Mathlib.Omega.{arith}
use lib.ListN.{length, set, length-append, length-set}
use Rattle.words.specs.Patterns.{bits}
use Rattle.words.specs.Writing.{Wrote}
use Rattle.words.proofs.Writing.{then}
use Rattle.words.proofs.Laid.{laid_one, laid-whole}
use Rattle.antenna.specs.declared.record.Antenna.{Antenna}
use Rattle.antenna_words.specs.Fields.{joined, flag, constant_floats, head_fields, element_fields, trig_fields, ground_fields, peak_fields, antenna_fields, antenna_words}
use Rattle.antenna_words.specs.Held.{Held}
use Rattle.antenna_words.specs.Reading.{antenna_in}
use Rattle.antenna_words.proofs.Lengths.{trig_length, ground_length, elements_length}
use Rattle.antenna_words.proofs.RoundTrip.{antenna_in_words}
use Rattle.antenna_words.proofs.writing.put_antenna.Goals as goal

-- the five parts
abbrev head : Antenna → List ℕ
head a = (a.model.iant ∷ flag a.model.slewed ∷ []) ++ bits (constant_floats a.model.constants)

abbrev elements : Antenna → List ℕ
elements a = joined (element_fields a.model.elements)

abbrev tables : Antenna → List ℕ
tables a = joined (trig_fields a.model.trig) ++ joined (ground_fields a.model.ground)

abbrev peak : Antenna → List ℕ
peak a = bits (a.peak.z6 ∷ a.peak.umax ∷ a.peak.vmax ∷ [])

abbrev sum : Antenna → List ℕ
sum a = a.sum ∷ []

all-parts : (a : Antenna) → head a ++ (elements a ++ (tables a ++ (peak a ++ sum a))) ≡ antenna_words a
unfolding joined head_fields element_fields trig_fields ground_fields peak_fields antenna_fields antenna_words
all-parts a = simp (append_assoc, append-nil)

pub shape_of-out : goal.shape_of-out
shape_of-out c =
    let fourth = c in
    let third = fourth in
    let second = third in
    let first = second in
    simp length-set (omega (arith, fourth.put_peak.auto.out, third.put_tables.auto.out, second.put_elements.auto.out, first.put_head.auto.out))

pub returns : goal.returns
returns c =
    let fourth = c in
    let third = fourth in
    let second = third in
    let first = second in
    let start = first in
    let out = start.args.out.now in
    let a = start.args.ant in
    let held : Held a = record {
      constants = first.put_head.ensures.f32s;
      elements = second.put_elements.ensures.held_elements;
      trig = third.put_tables.ensures.held_trig.0;
      ground = third.put_tables.ensures.held_trig.1;
      peak = fourth.put_peak.ensures.f32s;
    } in
    let t : length (tables a) ≡ 728 = length-append (joined (trig_fields a.model.trig)) (joined (ground_fields a.model.ground)) ∙ omega (arith, trig_length a.model.trig held.trig, ground_length a.model.ground held.ground) in
    let p : Wrote out 0 (head a) first.put_head.new.out 18 = record { bytes = first.put_head.ensures.out_after; after = refl } in
    let q : Wrote first.put_head.new.out 18 (elements a) second.put_elements.new.out 266 = record { bytes = second.put_elements.ensures.out_after; after = omega (arith, elements_length a.model.elements held.elements) } in
    let r : Wrote second.put_elements.new.out 266 (tables a) third.put_tables.new.out 994 = record { bytes = third.put_tables.ensures.out_after; after = omega (arith, t) } in
    let s : Wrote third.put_tables.new.out 994 (peak a) fourth.put_peak.new.out 997 = record { bytes = fourth.put_peak.ensures.out_after; after = refl } in
    let k : length first.put_head.new.out ≡ length out = first.put_head.auto.out in
    let l : length second.put_elements.new.out ≡ length first.put_head.new.out = second.put_elements.auto.out in
    let m : length third.put_tables.new.out ≡ length second.put_elements.new.out = third.put_tables.auto.out in
    let n : length fourth.put_peak.new.out ≡ length third.put_tables.new.out = fourth.put_peak.auto.out in
    let z : Wrote fourth.put_peak.new.out 997 (sum a) (set fourth.put_peak.new.out 997 a.sum) 998 = record { bytes = laid_one fourth.put_peak.new.out 997 a.sum (omega (arith, k, l, m, n, start.requires)); after = refl } in
    let w = then p (then q (then r (then s z (omega (arith, k, l, m, start.requires))) (omega (arith, k, l, start.requires))) (omega (arith, k, start.requires))) (omega (arith, start.requires)) in
    let e : set fourth.put_peak.new.out 997 a.sum ≡ antenna_words a = w.bytes ∙ laid-whole out (head a ++ (elements a ++ (tables a ++ (peak a ++ sum a)))) (omega (arith, w.after, start.requires)) ∙ all-parts a in
    record {
      out_after = e;
      out_after_2 = λ n. ap antenna_in e ∙ antenna_in_words a held n;
    }
