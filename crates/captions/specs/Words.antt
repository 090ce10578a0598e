-- Issue 27: "the peak's azimuth and number, front-to-back, elevation, MHz and the antenna's name in words". Definitions only.
use Rattle.std.specs.Prelude.{ℕ, Bool, cond, List, [], ◌∷◌, ◌++◌, eqb, Option, Some, None}
use Rattle.quoted.specs.Quoted.{quoted}
use Rattle.compass.specs.declared.Point.{Point}
use Rattle.labels.specs.Writing.{whole, reading}
use Rattle.figures.specs.Figures.{difference}
use Rattle.captions.specs.declared.Heading.{Heading}
use Rattle.captions.specs.declared.Mast.{Mast}
use Rattle.captions.specs.declared.Mast.TheVariants as mast

-- what a table has beside n, the first such line; other, where there is none
unfoldable pub beside : List (ℕ × List ℕ) → List ℕ → ℕ → List ℕ
beside [] other n = other
beside (line ∷ rest) other n = cond (eqb n line.0) line.1 (beside rest other n)

-- the types as docs/STATION.md names them, after CCIR Recommendation 705; any other number is the curtain
abbrev pub names : List (ℕ × List ℕ)
names =
    (1, quoted "multiband aperiodic reflector dipole array")
    ∷ (2, quoted "dual-band centre-fed tuned reflector dipole array")
    ∷ (3, quoted "dual-band end-fed tuned reflector dipole array")
    ∷ (4, quoted "tropical antenna")
    ∷ (5, quoted "horizontal log-periodic")
    ∷ (6, quoted "vertical log-periodic")
    ∷ (7, quoted "horizontal rhombic")
    ∷ (8, quoted "quadrant antenna")
    ∷ (9, quoted "cross-dipole antenna")
    ∷ []

unfoldable pub name_of : ℕ → List ℕ
name_of n = beside names (quoted "NTIA curtain array") n

-- the four winds
unfoldable pub winds_text : List ℕ
winds_text =
    quoted "<text x='4000' y='800' text-anchor='middle'>0&#176;</text>\n<text x='7180' y='4085'>90&#176;</text>\n"
    ++ quoted "<text x='3880' y='7370' text-anchor='end'>180&#176;</text>\n<text x='820' y='4085' text-anchor='end'>270&#176;</text>\n"

-- the name, MHz (raised hundredths), elevation
unfoldable pub head_text : Heading → List ℕ
head_text h =
    quoted "<text x='150' y='330' font-size='290'>" ++ name_of h.antenna
    ++ reading (quoted "</text>\n<text x='150' y='680'>") h.mhz
    ++ whole (quoted " MHz</text>\n<text x='7850' y='680' text-anchor='end'>elevation ") h.elevation
    ++ quoted "&#176;</text>\n"

-- a dot on the peak
unfoldable pub dot_text : Point → List ℕ
dot_text p = whole (quoted "<circle cx='") p.x ++ whole (quoted "' cy='") p.y ++ quoted "' r='90'/>\n"

-- the peak's number and azimuth, and front-to-back: the number in front less the one behind
unfoldable pub foot_text : ℕ → ℕ → ℕ → ℕ → List ℕ
foot_text peak azimuth front behind =
    reading (quoted "<text x='150' y='7820'>peak ") peak
    ++ whole (quoted " dBi at ") azimuth
    ++ difference (quoted "&#176;</text>\n<text x='7850' y='7820' text-anchor='end'>front-to-back ") front behind
    ++ quoted " dB</text>\n"

-- a text where something is so
abbrev pub shown_where : Bool → List ℕ → List ℕ
shown_where so text = cond so text []

-- what grey and dashes are
unfoldable pub fold_text : List ℕ
fold_text = quoted "<text x='7850' y='7480' text-anchor='end'>grey: folded over</text>\n"

unfoldable pub dashed_text : List ℕ
dashed_text = quoted "<text x='150' y='7480'>dashed: floor</text>\n"

-- a row whose peak is a floor
unfoldable pub all_floor_text : List ℕ
all_floor_text = quoted "<text x='150' y='7820'>floor all round: -30 dBi or less</text>\n"

unfoldable pub silence_text : List ℕ
silence_text = quoted "<text x='4000' y='2800' font-size='600' text-anchor='middle' stroke='#fff' stroke-width='160' paint-order='stroke'>silence</text>\n"

-- which of two masts a refusal is of, by a number: 1 the first, 2 the second; any other number is a mast by itself
unfoldable pub mast_numbered : ℕ → Option Mast
mast_numbered n = cond (eqb n 1) (Some mast.A) (cond (eqb n 2) (Some mast.B) None)

-- which of two masts a refusal is of, where there are two
unfoldable pub mast_of : Option Mast → List ℕ
mast_of None = []
mast_of (Some mast.A) = quoted "A: "
mast_of (Some mast.B) = quoted "B: "

-- why a plate was refused, for people; the other numbers are no plate's
abbrev pub sentences : List (ℕ × List ℕ)
sentences =
    (1, quoted "this is no station of 237 bytes, and no good card")
    ∷ (2, quoted "a number of the station isn't finite")
    ∷ (3, quoted "the type is not 1 to 9, nor is this a curtain")
    ∷ (4, quoted "there is no such mode of the maximum gain")
    ∷ (5, quoted "the MHz or the design MHz is under 1, or 31 or more")
    ∷ (6, quoted "dipoles are not 0 to 64, or elements not 2 to 30")
    ∷ (7, quoted "elevation not a whole 0 to 90, or wrong slew or start")
    ∷ (8, quoted "the space for the answer is too short")
    ∷ (9, quoted "a gain in the search isn't finite: is a size 0?")
    ∷ (10, quoted "a gain isn't finite")
    ∷ (18, quoted "a gain is beyond 1,000 dBi or -1,000 dBi")
    ∷ []

unfoldable pub sentence_of : ℕ → List ℕ
sentence_of n = beside sentences [] n
