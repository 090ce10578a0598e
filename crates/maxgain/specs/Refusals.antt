-- Document 01's table for the maximum gain, before it is looked for. Definitions only.
use Rattle.std.specs.Prelude.{ℕ, Bool, true, cond, not, ◌&&◌, List, ltb, eqb, Float}
use Rattle.std.specs.Float.Ieee.Scale.{finite}
use Rattle.floats.specs.Ops.{at}
use Rattle.floats.specs.Ranges.{all_finite}
use Rattle.model.specs.Types.{jant_of, type_ok}
use Rattle.model.specs.Limits.{in_band}
use Rattle.answers.specs.Refusals.{VALUE, TYPE, MODE, BAND}

unfoldable pub inputs_finite : List Float → List Float → List Float → Float → Float → Bool
inputs_finite parm gainmax gainmaxb mhz design =
    all_finite parm && all_finite gainmax && all_finite gainmaxb && finite mhz && finite design

-- mode 2 alone has a band
unfoldable pub band_ok : ℕ → Float → Bool
band_ok mode mhz = cond (eqb mode 2) (in_band mhz) true

-- the first number, 0 where there is none
unfoldable pub refusal_of : ℕ → List Float → List Float → List Float → Float → Float → ℕ
refusal_of mode parm gainmax gainmaxb mhz design =
    cond (not (inputs_finite parm gainmax gainmaxb mhz design)) VALUE
    (cond (not (type_ok (jant_of (at parm 1)))) TYPE
    (cond (ltb 2 mode) MODE
    (cond (not (band_ok mode mhz)) BAND 0)))
