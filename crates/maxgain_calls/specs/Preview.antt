-- `hf_preview`: what the maximum gain would write, floats in and words out. Definitions only.
use Rattle.std.specs.Prelude.{ℕ, min, Bool, true, false, cond, not, ◌&&◌, List, [], ◌∷◌, ◌++◌, length, eqb, Float}
use Rattle.std.specs.Float.{binary32}
use Rattle.std.specs.Float.Ieee.{to_bits}
use Rattle.floats.specs.Ops.{at}
use Rattle.answers.specs.Outcome.{Outcome, refused, accepted}
use Rattle.maxgain_preview.specs.Preview.{preview_of}
use Rattle.maxgain_preview.specs.declared.Slot.{Slot}
use Rattle.maxgain_preview.specs.declared.Shown.{Shown}
use Rattle.packed.specs.Lists.{Left, left, part}

abbrev pub mark_word : Bool → ℕ
mark_word true = 1
mark_word false = 0

-- 1 for written or 0 for kept, then its bits
abbrev pub slot_words : Slot → List ℕ
slot_words s = mark_word s.written ∷ to_bits binary32 s.value ∷ []

-- the gain's bits, then slots 4, 5 and 7
unfoldable pub shown_words : Shown → List ℕ
shown_words s = to_bits binary32 s.gain ∷ slot_words s.slot4 ++ slot_words s.slot5 ++ slot_words s.slot7

-- 0, with what is shown; or the refusal's number, with the lent words as they were
unfoldable pub preview_words : Outcome Shown → List ℕ → Left
preview_words (accepted s) out = left 0 (shown_words s)
preview_words (refused n) out = left n out

-- the preview of floats that are parm, gainmax, gainmaxb, MHz and design MHz
unfoldable pub preview_from : ℕ → List Float → Outcome Shown
preview_from mode floats = preview_of mode (part floats 0 20) (part floats 20 6) (part floats 26 30) (at floats 56) (at floats 57)

-- 8 for slices of other lengths; a mode above 255 counts as 255
unfoldable pub preview_call : ℕ → List Float → List ℕ → Left
preview_call mode floats out =
    cond (not (eqb (length floats) 58 && eqb (length out) 7)) (left 8 out) (preview_words (preview_from (min mode 255) floats) out)
