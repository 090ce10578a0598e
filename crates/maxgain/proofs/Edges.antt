-- Document 01's starred edges of the maximum gain, computed from the definitions.
use mathlib.Core.Path.{◌≡◌, refl, ap}
use mathlib.Core.Bool.{not}
use mathlib.Core.List.{List}
use lib.Dec.{ltb, eqb}
use lib.ListN.{length}
use lib.Ieee.{Float, binary32, add, sub, div, lt, le, eq, round, of_bits, of_int, to_unsigned}
use lib.Ieee.Fits.{sub-fits}
use Rattle.floats.specs.Ops.{◌⊕◌, ◌⊖◌, count, at}
use Rattle.floats.specs.Literals.{one, ten, thirty, thirty_one}
use Rattle.floats.specs.Ranges.{between}
use Rattle.floats.proofs.TimesOne.{times-one}
use lib.Ieee.Scale.{finite}
use Rattle.answers.specs.Outcome.{accepted}
use Rattle.answers.specs.Refusals.{LEVEL}
use Rattle.answers.proofs.Outcome.{passed, same}
use Rattle.model.specs.Types.{jant_of}
use Rattle.interpolation.specs.Interpolation.{lower_mhz, gain_ter_b}
use Rattle.maxgain.specs.Refusals.{refusal_of}
use Rattle.maxgain.specs.Maximum.{usable, designed, tuned, tuned_slots, by_ratio, found, graded, set_max_gain}
use Rattle.maxgain.proofs.Slots.{slot_4, slot_7}

tuned_at_31 : tuned thirty_one one ≡ record { foper = ten; fdesign = ten }
unfolding tuned usable designed between of_bits le lt eq div round
tuned_at_31 = refl

-- mode 1, 31 MHz, design 1: 10 and 10, in slots 4 and 7
pub mode_1_at_31 : (parm gainmax gainmaxb : List Float) → length parm ≡ 20 → {giso : Float} {p : List Float}
    → set_max_gain 1 parm gainmax gainmaxb thirty_one one ≡ accepted (giso, p) → (at p 4 ≡ ten) × (at p 7 ≡ ten)
unfolding set_max_gain graded found by_ratio tuned_slots
mode_1_at_31 parm gainmax gainmaxb e {giso} {p} h =
    let number = refusal_of 1 parm gainmax gainmaxb thirty_one one in
    let t = tuned thirty_one one in
    let f = by_ratio parm (jant_of (at parm 1)) gainmax t in
    let answered : ◌≡◌ {A = Float × List Float} (f.gain, f.parm) (giso, p) = same (passed (not (finite f.gain)) LEVEL _ (passed (ltb 0 number) number _ h).1).1 in
    let same-parm : f.parm ≡ p = ap (λ (m : Float × List Float). m.1) answered in
    let eight = eqb (jant_of (at parm 1)) 8 in
    let slots : (at f.parm 4 ≡ t.foper) × (at f.parm 7 ≡ t.fdesign) = (slot_4 parm t.foper t.fdesign e eight, slot_7 parm t.foper t.fdesign e eight) in
    rw tuned_at_31 at (rw same-parm at slots)

lower_at_30 : lower_mhz thirty ≡ 29
unfolding lower_mhz to_unsigned of_bits
lower_at_30 = refl

fraction_at_30 : thirty ⊖ count 29 ≡ one
unfolding of_int of_bits sub add round
fraction_at_30 = refl

-- `gainterb` at 30: entry 28 plus (entry 29 less entry 28)
pub gainterb_at_30 : (gainab : List Float) → gain_ter_b gainab thirty ≡ at gainab 28 ⊕ (at gainab 29 ⊖ at gainab 28)
unfolding gain_ter_b
gainterb_at_30 gainab =
    rw (lower_at_30, fraction_at_30, times-one (at gainab 29 ⊖ at gainab 28) (sub-fits binary32 (at gainab 29) (at gainab 28)))
