-- `setmaxgain` of the source, with document 01's refusals. Definitions only.
use Rattle.std.specs.Prelude.{ℕ, cond, not, List, set, ltb, eqb, Float}
use Rattle.std.specs.Float.Ieee.Scale.{finite}
use Rattle.floats.specs.Ops.{◌⊘◌, at}
use Rattle.floats.specs.Literals.{two, ten, thirty}
use Rattle.floats.specs.Ranges.{between}
use Rattle.model.specs.Types.{jant_of}
use Rattle.answers.specs.Outcome.{Outcome, refused, accepted}
use Rattle.answers.specs.Refusals.{LEVEL}
use Rattle.interpolation.specs.Literals.{n0·7, n1·4}
use Rattle.maxgain.specs.Refusals.{refusal_of}
use Rattle.interpolation.specs.Interpolation.{gain_ter_b, gain_terp}
use Rattle.maxgain.specs.declared.maximum.Found.{Found}
use Rattle.maxgain.specs.declared.maximum.Tuning.{Tuning}

-- ---- the modes

-- x where it lies in 2..30 MHz, else another
unfoldable pub usable : Float → Float → Float
usable x other = cond (between x two thirty) x other

-- a design value in 0.7..1.4 is a frequency ratio
unfoldable pub designed : Float → Float → Float
designed foper design = cond (between design n0·7 n1·4) (foper ⊘ design) design

-- mode 1's frequencies: an operating one outside 2..30 is 10, and after the design rule a design one outside is the operating one
unfoldable pub tuned : Float → Float → Tuning
tuned mhz design =
    let foper = usable mhz ten in
    record { foper = foper; fdesign = usable (designed foper design) foper }

-- slots 4 and 7, and slot 5 of type 8
unfoldable pub tuned_slots : List Float → ℕ → Tuning → List Float
tuned_slots parm iant t =
    let p = set (set parm 4 t.foper) 7 t.fdesign in
    cond (eqb iant 8) (set p 5 t.fdesign) p

unfoldable pub as_given : List Float → Found
as_given parm = record { gain = at parm 0; parm = parm }

unfoldable pub by_ratio : List Float → ℕ → List Float → Tuning → Found
by_ratio parm iant gainmax t = record { gain = gain_terp gainmax t.foper t.fdesign iant; parm = tuned_slots parm iant t }

unfoldable pub by_mhz : List Float → List Float → Float → Found
by_mhz parm gainmaxb mhz = record { gain = gain_ter_b gainmaxb mhz; parm = set parm 4 mhz }

-- mode 0 takes slot 0, mode 1 the gains by frequency ratio, mode 2 the gains per MHz
unfoldable pub found : ℕ → ℕ → List Float → List Float → List Float → Float → Float → Found
found mode iant parm gainmax gainmaxb mhz design =
    cond (eqb mode 0) (as_given parm)
    (cond (eqb mode 1) (by_ratio parm iant gainmax (tuned mhz design))
    (by_mhz parm gainmaxb mhz))

-- ---- the answer

abbrev pub gain_and_parm : Found → Float × List Float
gain_and_parm f = (f.gain, f.parm)

-- the gain with the parameters; a gain that isn't finite is refused
unfoldable pub graded : Found → Outcome (Float × List Float)
graded f = cond (not (finite f.gain)) (refused LEVEL) (accepted (gain_and_parm f))

-- lowest number first
unfoldable pub set_max_gain : ℕ → List Float → List Float → List Float → Float → Float → Outcome (Float × List Float)
set_max_gain mode parm gainmax gainmaxb mhz design =
    let number = refusal_of mode parm gainmax gainmaxb mhz design in
    cond (ltb 0 number) (refused number) (graded (found mode (jant_of (at parm 1)) parm gainmax gainmaxb mhz design))
