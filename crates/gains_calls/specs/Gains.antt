-- `hf_gains`: set-up, then the gain at each of many directions, as words. Definitions only.
use Rattle.std.specs.Prelude.{ℕ, zero, suc, ◌+◌, ◌*◌, ◌/◌, ◌%◌, Bool, cond, not, ◌&&◌, List, [], ◌∷◌, ◌++◌, length, eqb, Float}
use Rattle.std.specs.Float.{binary32}
use Rattle.std.specs.Float.Ieee.{to_bits}
use Rattle.floats.specs.Ops.{at}
use Rattle.model.specs.Table.{table_size, blank_table}
use Rattle.answers.specs.Outcome.{Outcome, refused, accepted}
use Rattle.answers.specs.declared.Kind.{Kind}
use Rattle.answers.specs.declared.Kind.TheVariants.{Level, Floor, Silence}
use Rattle.antenna.specs.Gain.{gain_of}
use Rattle.antenna.specs.SetUp.{set_up_of, lent_after}
use Rattle.antenna.specs.declared.record.Antenna.{Antenna}
use Rattle.packed.specs.Lists.{Left, left}
use Rattle.gains_calls.specs.Search.{search_words}

unfoldable pub kind_number : Kind → ℕ
kind_number Level = 0
kind_number Floor = 1
kind_number Silence = 2

-- a gain in two words: its kind's number and its bits; or 3 and the refusal's number
unfoldable pub gain_words : Outcome (Kind × Float) → List ℕ
gain_words (refused n) = 3 ∷ n ∷ []
gain_words (accepted g) = kind_number g.0 ∷ to_bits binary32 g.1 ∷ []

-- the gains at the first n directions, each an elevation and an azimuth
unfoldable pub gains_to : Antenna → List Float → Float → List Float → ℕ → List ℕ
gains_to a t giso ds zero = []
gains_to a t giso ds (suc n) = gains_to a t giso ds n ++ gain_words (gain_of a t (at ds (2 * n)) (at ds (2 * n + 1)) giso)

-- 0, with what the search found and the gains; or set-up's refusal, with the lent words as they were
unfoldable pub gains_left : Outcome (Antenna × ℕ) → List Float → Float → List Float → List ℕ → Left
gains_left (refused n) t giso ds out = left n out
gains_left (accepted s) t giso ds out = left 0 (search_words s.1 s.0.peak ++ gains_to s.0 t giso ds (length ds / 2))

-- twenty parameters, whole pairs, four words plus two a pair
unfoldable pub gains_fit : ℕ → ℕ → ℕ → Bool
gains_fit parm directions out = eqb out (4 + directions) && eqb parm 20 && eqb (directions % 2) 0

-- 8 for slices of other lengths
unfoldable pub gains_call : List Float → Float → List Float → List ℕ → Left
gains_call parm giso ds out =
    cond (not (gains_fit (length parm) (length ds) (length out))) (left 8 out)
    (gains_left (set_up_of parm table_size) (lent_after parm blank_table) giso ds out)
