-- Document 02, card 2: the preview is what `setmaxgain` does on a copy of the parameters. Assumes nothing.
use Prim.Native.Nat.{ℕ, zero, suc}
use mathlib.Core.Path.{◌≡◌, refl, sym, ap, subst}
use mathlib.Core.Bool.{Bool, true, false, cond, not, ◌&&◌, true≢false}
use mathlib.Core.List.{List}
use native.Mathlib.Omega.{arith}
use borrow.Author.Tests.{ne_eqb}
use lib.Dec.{ltb, eqb}
use lib.ListN.{length, set, length-set}
use lib.Seq.{get_or-set_same}
use lib.Ieee.{Float, nan}
use lib.Ieee.Scale.{finite}
use Rattle.floats.specs.Ops.{at}
use Rattle.model.specs.Types.{jant_of}
use Rattle.answers.specs.Outcome.{Outcome, refused, accepted}
use Rattle.answers.specs.Refusals.{LEVEL}
use Rattle.answers.proofs.Outcome.{passed, same}
use Rattle.maxgain.specs.Refusals.{refusal_of}
use Rattle.maxgain.specs.Maximum.{tuned, tuned_slots, as_given, by_ratio, by_mhz, found, graded, set_max_gain}
use Rattle.maxgain_preview.specs.Preview.{written_slot, kept_slot, show_as_given, show_by_ratio, show_by_mhz, shown, passing, preview_of, marked_by}
use Rattle.maxgain_preview.specs.PreviewLaw.{Given, preview, call, Tells, Shows, PreviewLaw}
use Rattle.maxgain.specs.declared.maximum.Found.{Found}
use Rattle.maxgain.specs.declared.maximum.Tuning.{Tuning}
use Rattle.maxgain_preview.specs.declared.Slot.{Slot}
use Rattle.maxgain_preview.specs.declared.Shown.{Shown}
use Rattle.maxgain.proofs.Slots.{elsewhere, mode_1, as_many, others, slot_4, slot_5, slot_7}

never : {A : Type 0} {x : A} {n : ℕ} → accepted x ≡ refused n → ⊥
never h = let z : ◌≡◌ {A = ℕ} 0 1 = cc in absurd (omega arith)

-- ---- one slot

told-kept : (k : ℕ) (given after : List Float) → at after k ≡ at given k → Tells (kept_slot (at given k)) k given after
told-kept k given after e = record { left = sym e; kept = λ n. refl }

told-written : (x : Float) (k : ℕ) (given after : List Float) → at after k ≡ x → Tells (written_slot x) k given after
told-written x k given after e = record { left = sym e; kept = λ n. absurd (true≢false n) }

-- ---- the modes

record Agrees (given : List Float) (f : Found) (s : Shown) : Type 0 where
  gain : f.gain ≡ s.gain
  slots : Shows s given f.parm

module _ (parm : List Float) (e : length parm ≡ 20) where
  given_agrees : Agrees parm (as_given parm) (show_as_given parm)
  unfolding as_given show_as_given
  given_agrees = record {
    gain = refl;
    slots = record {
      four = told-kept 4 parm parm refl;
      five = told-kept 5 parm parm refl;
      seven = told-kept 7 parm parm refl;
      as_many = refl;
      others = λ k a b c. refl;
    };
  }

  mhz_agrees : (gainmaxb : List Float) (mhz : Float) → Agrees parm (by_mhz parm gainmaxb mhz) (show_by_mhz parm gainmaxb mhz)
  unfolding by_mhz show_by_mhz
  mhz_agrees gainmaxb mhz =
      let after = set parm 4 mhz in
      record {
        gain = refl;
        slots = record {
          four = told-written mhz 4 parm after (get_or-set_same parm 4 mhz nan (omega arith));
          five = told-kept 5 parm after (elsewhere parm 4 5 mhz (λ n. omega arith));
          seven = told-kept 7 parm after (elsewhere parm 4 7 mhz (λ n. omega arith));
          as_many = length-set parm 4 mhz;
          others = λ k a b c. elsewhere parm 4 k mhz a;
        };
      }

  -- slot 5 of type 8 is written, of another type kept
  fifth : (after : List Float) (d : Float) (eight : Bool) → at after 5 ≡ cond eight d (at parm 5)
      → Tells (cond eight (written_slot d) (kept_slot (at parm 5))) 5 parm after
  fifth after d true h = told-written d 5 parm after h
  fifth after d false h = told-kept 5 parm after h

  ratio_agrees : (iant : ℕ) (gainmax : List Float) (t : Tuning) → Agrees parm (by_ratio parm iant gainmax t) (show_by_ratio parm iant gainmax t)
  unfolding by_ratio tuned_slots show_by_ratio
  ratio_agrees iant gainmax t =
      let f = t.foper in
      let d = t.fdesign in
      let eight = eqb iant 8 in
      let after = mode_1 parm f d eight in
      record {
        gain = refl;
        slots = record {
          four = told-written f 4 parm after (slot_4 parm f d e eight);
          five = fifth after d eight (slot_5 parm f d e eight);
          seven = told-written d 7 parm after (slot_7 parm f d e eight);
          as_many = as_many parm f d eight;
          others = others parm f d eight;
        };
      }

  -- of two cases, whichever it is
  whichever : (b : Bool) {f f' : Found} {s s' : Shown} → Agrees parm f s → Agrees parm f' s' → Agrees parm (cond b f f') (cond b s s')
  whichever true a a' = a
  whichever false a a' = a'

  mode_agrees : (mode iant : ℕ) (gainmax gainmaxb : List Float) (mhz design : Float)
      → Agrees parm (found mode iant parm gainmax gainmaxb mhz design) (shown mode iant parm gainmax gainmaxb mhz design)
  unfolding found shown
  mode_agrees mode iant gainmax gainmaxb mhz design =
      whichever (eqb mode 0) given_agrees (whichever (eqb mode 1) (ratio_agrees iant gainmax (tuned mhz design)) (mhz_agrees gainmaxb mhz))

-- ---- the answers

-- the preview's beside the call's: both refused, or both accepted
data Alike (given : List Float) : Outcome Shown → Outcome (Float × List Float) → Type 0 where
  both_refused : (n : ℕ) → Alike given (refused n) (refused n)
  both_accepted : (s : Shown) (after : List Float) → Shows s given after → Alike given (accepted s) (accepted (s.gain, after))

module _ (given : List Float) where
  -- a test that both make
  tested : (b : Bool) (n : ℕ) {o : Outcome Shown} {o' : Outcome (Float × List Float)} → Alike given o o'
      → Alike given (cond b (refused n) o) (cond b (refused n) o')
  tested true n a = both_refused n
  tested false n a = a

  graded-alike : (f : Found) (s : Shown) → Agrees given f s → Alike given (passing s) (graded f)
  unfolding passing graded
  graded-alike f s a = rw a.gain (tested (not (finite s.gain)) LEVEL (both_accepted s f.parm a.slots))

  refused-after : {o : Outcome Shown} {o' : Outcome (Float × List Float)} → Alike given o o' → (n : ℕ)
      → (o ≡ refused n → o' ≡ refused n) × (o' ≡ refused n → o ≡ refused n)
  refused-after (both_refused m) n = (λ h. cc, λ h. cc)
  refused-after (both_accepted s after h) n = (λ h. absurd (never h), λ h. absurd (never h))

  accepted-after : {o : Outcome Shown} {o' : Outcome (Float × List Float)} → Alike given o o' → (s : Shown) → o ≡ accepted s
      → (after : List Float) × (o' ≡ accepted (s.gain, after)) × Shows s given after
  accepted-after (both_refused n) s h = absurd (never (sym h))
  accepted-after (both_accepted t after shows) s h = rw (← same h) (after, refl, shows)

alike : (c : Given) → Alike c.parm (preview c) (call c)
unfolding preview_of set_max_gain
alike c =
    let number = refusal_of c.mode c.parm c.gainmax c.gainmaxb c.mhz c.design in
    tested c.parm (ltb 0 number) number
    (graded-alike c.parm _ _ (mode_agrees c.parm c.twenty c.mode (jant_of (at c.parm 1)) c.gainmax c.gainmaxb c.mhz c.design))

-- ---- the marks

abbrev Marked : ℕ → ℕ → Shown → Type 0
Marked mode iant s =
    (s.slot4.written ≡ not (eqb mode 0)) × (s.slot5.written ≡ eqb mode 1 && eqb iant 8) × (s.slot7.written ≡ eqb mode 1)

fifth-mark : (eight : Bool) (d present : Float) → (cond eight (written_slot d) (kept_slot present)).written ≡ eight
fifth-mark true d present = refl
fifth-mark false d present = refl

marked : (mode iant : ℕ) (parm gainmax gainmaxb : List Float) (mhz design : Float) → Marked mode iant (shown mode iant parm gainmax gainmaxb mhz design)
unfolding shown show_as_given show_by_ratio show_by_mhz
marked zero iant parm gainmax gainmaxb mhz design = (refl, refl, refl)
marked (suc zero) iant parm gainmax gainmaxb mhz design = (refl, fifth-mark (eqb iant 8) _ _, refl)
marked (suc (suc mode)) iant parm gainmax gainmaxb mhz design =
    rw (ne_eqb (suc (suc mode)) 0 (λ n. omega arith), ne_eqb (suc (suc mode)) 1 (λ n. omega arith)) (refl, refl, refl)

marks : (c : Given) (s : Shown) → preview c ≡ accepted s → Marked c.mode (jant_of (at c.parm 1)) s
unfolding preview_of passing
marks c s h =
    let iant = jant_of (at c.parm 1) in
    let number = refusal_of c.mode c.parm c.gainmax c.gainmaxb c.mhz c.design in
    let seen = shown c.mode iant c.parm c.gainmax c.gainmaxb c.mhz c.design in
    let e : seen ≡ s = same (passed (not (finite seen.gain)) LEVEL _ (passed (ltb 0 number) number _ h).1).1 in
    subst (Marked c.mode iant) e (marked c.mode iant c.parm c.gainmax c.gainmaxb c.mhz c.design)

pub preview_law : PreviewLaw
preview_law = record {
  refused_both = λ c n. refused-after c.parm (alike c) n;
  accepted_both = λ c s h. accepted-after c.parm (alike c) s h;
  marks = marks;
}

-- ---- from the call to the preview

slot_is : (s : Slot) (w : Bool) {new present : Float} → s.written ≡ w → s.value ≡ new → (s.written ≡ false → s.value ≡ present)
    → s ≡ cond w (written_slot new) (kept_slot present)
slot_is s true e v k = rw (← e, ← v)
slot_is s false e v k = rw (← e, ← k e)

from-alike : (c : Given) {o : Outcome Shown} {o' : Outcome (Float × List Float)} → Alike c.parm o o' → preview c ≡ o
    → {g : Float} {after : List Float} → o' ≡ accepted (g, after) → o ≡ accepted (marked_by c.mode g c.parm after)
unfolding marked_by
from-alike c (both_refused n) e h = absurd (never (sym h))
from-alike c (both_accepted s a shows) e {g} {after} h =
    let m = marks c s e in
    let p : ◌≡◌ {A = Float × List Float} (s.gain, a) (g, after) = same h in
    let four = slot_is s.slot4 (not (eqb c.mode 0)) m.0 shows.four.left shows.four.kept in
    let five = slot_is s.slot5 (eqb c.mode 1 && eqb (jant_of (at c.parm 1)) 8) m.1 shows.five.left shows.five.kept in
    let seven = slot_is s.slot7 (eqb c.mode 1) m.2 shows.seven.left shows.seven.kept in
    rw (← ap (λ (x : Float × List Float). x.0) p, ← ap (λ (x : Float × List Float). x.1) p, ← four, ← five, ← seven)

-- a call that is accepted, marked, is the preview
pub from-call : (c : Given) {g : Float} {after : List Float} → call c ≡ accepted (g, after) → preview c ≡ accepted (marked_by c.mode g c.parm after)
from-call c h = from-alike c (alike c) refl h
