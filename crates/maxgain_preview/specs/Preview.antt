-- Document 02, card 2: what `setmaxgain` would write, shown before it does. Definitions only.
use Rattle.std.specs.Prelude.{ℕ, true, false, cond, not, ◌&&◌, List, ltb, eqb, Float}
use Rattle.std.specs.Float.Ieee.Scale.{finite}
use Rattle.floats.specs.Ops.{at}
use Rattle.model.specs.Types.{jant_of}
use Rattle.answers.specs.Outcome.{Outcome, refused, accepted}
use Rattle.answers.specs.Refusals.{LEVEL}
use Rattle.maxgain.specs.Refusals.{refusal_of}
use Rattle.interpolation.specs.Interpolation.{gain_ter_b, gain_terp}
use Rattle.maxgain.specs.Maximum.{tuned}
use Rattle.maxgain.specs.declared.maximum.Tuning.{Tuning}
use Rattle.maxgain_preview.specs.declared.Slot.{Slot}
use Rattle.maxgain_preview.specs.declared.Shown.{Shown}

-- ---- a slot

-- "written (even with the same bits)", with its new value
abbrev pub written_slot : Float → Slot
written_slot new = record { written = true; value = new }

-- "kept, where a kept slot shows its present bits"
abbrev pub kept_slot : Float → Slot
kept_slot present = record { written = false; value = present }

-- ---- the modes

-- mode 0 writes no slot
unfoldable pub show_as_given : List Float → Shown
show_as_given parm =
    record { gain = at parm 0; slot4 = kept_slot (at parm 4); slot5 = kept_slot (at parm 5); slot7 = kept_slot (at parm 7) }

-- mode 1 writes slots 4 and 7, and slot 5 of type 8
unfoldable pub show_by_ratio : List Float → ℕ → List Float → Tuning → Shown
show_by_ratio parm iant gainmax t =
    record {
      gain = gain_terp gainmax t.foper t.fdesign iant;
      slot4 = written_slot t.foper;
      slot5 = cond (eqb iant 8) (written_slot t.fdesign) (kept_slot (at parm 5));
      slot7 = written_slot t.fdesign;
    }

-- mode 2 writes slot 4
unfoldable pub show_by_mhz : List Float → List Float → Float → Shown
show_by_mhz parm gainmaxb mhz =
    record { gain = gain_ter_b gainmaxb mhz; slot4 = written_slot mhz; slot5 = kept_slot (at parm 5); slot7 = kept_slot (at parm 7) }

unfoldable pub shown : ℕ → ℕ → List Float → List Float → List Float → Float → Float → Shown
shown mode iant parm gainmax gainmaxb mhz design =
    cond (eqb mode 0) (show_as_given parm)
    (cond (eqb mode 1) (show_by_ratio parm iant gainmax (tuned mhz design))
    (show_by_mhz parm gainmaxb mhz))

-- ---- the answer

-- a gain that isn't finite is refused
unfoldable pub passing : Shown → Outcome Shown
passing s = cond (not (finite s.gain)) (refused LEVEL) (accepted s)

-- the call's refusals, lowest number first
unfoldable pub preview_of : ℕ → List Float → List Float → List Float → Float → Float → Outcome Shown
preview_of mode parm gainmax gainmaxb mhz design =
    let number = refusal_of mode parm gainmax gainmaxb mhz design in
    cond (ltb 0 number) (refused number) (passing (shown mode (jant_of (at parm 1)) parm gainmax gainmaxb mhz design))

-- the code's own step: a call's answer, marked
unfoldable pub marked_by : ℕ → Float → List Float → List Float → Shown
marked_by mode gain parm after =
    record {
      gain = gain;
      slot4 = cond (not (eqb mode 0)) (written_slot (at after 4)) (kept_slot (at parm 4));
      slot5 = cond (eqb mode 1 && eqb (jant_of (at parm 1)) 8) (written_slot (at after 5)) (kept_slot (at parm 5));
      slot7 = cond (eqb mode 1) (written_slot (at after 7)) (kept_slot (at parm 7));
    }
