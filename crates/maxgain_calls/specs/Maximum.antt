-- `hf_maxgain`: the maximum gain, floats in and words out. Definitions only.
use Rattle.std.specs.Prelude.{ℕ, min, cond, not, ◌&&◌, List, ◌∷◌, length, eqb, Float}
use Rattle.std.specs.Float.{binary32}
use Rattle.std.specs.Float.Ieee.{to_bits}
use Rattle.floats.specs.Ops.{at}
use Rattle.answers.specs.Outcome.{Outcome, refused, accepted}
use Rattle.maxgain.specs.Maximum.{set_max_gain}
use Rattle.packed.specs.Lists.{Left, left, part, bits}

-- 0, with the gain's bits and the parameters'; or the refusal's number, with the lent words as they were
unfoldable pub maximum_words : Outcome (Float × List Float) → List ℕ → Left
maximum_words (accepted m) out = left 0 (to_bits binary32 m.0 ∷ bits m.1)
maximum_words (refused n) out = left n out

-- `setmaxgain` of floats that are parm, gainmax, gainmaxb, MHz and design MHz
unfoldable pub maximum_of : ℕ → List Float → Outcome (Float × List Float)
maximum_of mode floats = set_max_gain mode (part floats 0 20) (part floats 20 6) (part floats 26 30) (at floats 56) (at floats 57)

-- 8 for slices of other lengths; a mode above 255 counts as 255
unfoldable pub maxgain_call : ℕ → List Float → List ℕ → Left
maxgain_call mode floats out =
    cond (not (eqb (length floats) 58 && eqb (length out) 21)) (left 8 out) (maximum_words (maximum_of (min mode 255) floats) out)
