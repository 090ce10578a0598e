-- Issue 27: "the plate as a picture", as SVG text on a square of 8,000; "a silence as an empty plate with the word, a refusal as its sentence". Definitions only.
use Rattle.std.specs.Prelude.{ℕ, Bool, cond, Option, List, [], ◌++◌, ltb, get_or}
use Rattle.answers.specs.declared.Kind.{Kind}
use Rattle.answers.specs.declared.Kind.TheVariants as kind
use Rattle.quoted.specs.Quoted.{quoted}
use Rattle.compass.specs.Compass.{point_of}
use Rattle.labels.specs.Writing.{whole}
use Rattle.dial.specs.Kinds.{is_floor, is_silence}
use Rattle.dial.specs.Scale.{peak_azimuth, peak_of, radius_of}
use Rattle.figures.specs.Figures.{behind_of}
use Rattle.curve.specs.Curve.{curve_text, has_floor}
use Rattle.rings.specs.Rings.{within, scale_text, labels_text}
use Rattle.captions.specs.Words.{winds_text, head_text, dot_text, foot_text, shown_where, fold_text, dashed_text, all_floor_text, silence_text, mast_of, sentence_of}
use Rattle.captions.specs.declared.Heading.{Heading}
use Rattle.captions.specs.declared.Mast.{Mast}

-- a white square of 8,000, shown 800 wide and high
unfoldable pub open_text : List ℕ
open_text =
    quoted "<svg xmlns='http://www.w3.org/2000/svg' width='800' height='800' viewBox='0 0 8000 8000' font-family='sans-serif' font-size='240'>\n"
    ++ quoted "<rect width='8000' height='8000' fill='#fff'/>\n"

-- the labels of the rings, the winds and the head
unfoldable pub beside_text : List ℕ → ℕ → Heading → List ℕ
beside_text numbers peak h = labels_text (within numbers) peak ++ winds_text ++ head_text h

-- the peak with its dot and its words, after what dashes are
unfoldable pub peak_text : List ℕ → List Kind → ℕ → ℕ → List ℕ
peak_text numbers kinds azimuth peak =
    shown_where (has_floor kinds) dashed_text
    ++ dot_text (point_of azimuth (radius_of peak peak))
    ++ foot_text peak azimuth (get_or numbers 0 0) (get_or numbers (behind_of numbers) 0)

-- where the peak is a floor, no gain is above -30 dBi
unfoldable pub told_text : List ℕ → List Kind → ℕ → ℕ → List ℕ
told_text numbers kinds azimuth peak =
    cond (is_floor (get_or kinds azimuth kind.Level)) all_floor_text (peak_text numbers kinds azimuth peak)

-- the curve of a row whose peak is at an azimuth, then all words, so that it covers none
unfoldable pub drawn_text : List ℕ → List Kind → Bool → ℕ → ℕ → Heading → List ℕ
drawn_text numbers kinds fold azimuth peak h =
    curve_text numbers kinds fold peak
    ++ beside_text numbers peak h
    ++ shown_where fold fold_text
    ++ told_text numbers kinds azimuth peak

-- an empty plate with the word
unfoldable pub silent_text : List ℕ → ℕ → Heading → List ℕ
silent_text numbers peak h = beside_text numbers peak h ++ silence_text

-- a row is silent where its first entry is
unfoldable pub body_text : List ℕ → List Kind → Bool → ℕ → ℕ → Heading → List ℕ
body_text numbers kinds fold azimuth peak h =
    cond (is_silence (get_or kinds 0 kind.Level)) (silent_text numbers peak h) (drawn_text numbers kinds fold azimuth peak h)

-- the whole picture
unfoldable pub picture_of : List ℕ → List Kind → Bool → Heading → List ℕ
picture_of numbers kinds fold h =
    open_text
    ++ scale_text (peak_of numbers)
    ++ body_text numbers kinds fold (peak_azimuth numbers) (peak_of numbers) h
    ++ quoted "</svg>\n"

-- into a buffer of room bytes: nothing where there are under 65,536, or where the peak is over 1,000 dBi
unfoldable pub picture_in : ℕ → List ℕ → List Kind → Bool → Heading → List ℕ
picture_in room numbers kinds fold h =
    cond (ltb room 65536) [] (cond (ltb 200000 (peak_of numbers)) [] (picture_of numbers kinds fold h))

-- a refusal's, of one of two masts where there are two
unfoldable pub refusal_of : Option Mast → ℕ → List ℕ
refusal_of mast number =
    open_text
    ++ quoted "<text x='4000' y='3700' font-size='600' text-anchor='middle'>"
    ++ mast_of mast
    ++ whole (quoted "refused ") number
    ++ quoted "</text>\n<text x='4000' y='4300' font-size='280' text-anchor='middle'>"
    ++ sentence_of number
    ++ quoted "</text>\n</svg>\n"

unfoldable pub refusal_in : ℕ → Option Mast → ℕ → List ℕ
refusal_in room mast number = cond (ltb room 65536) [] (refusal_of mast number)
