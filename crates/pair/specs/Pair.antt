-- Issue 27: "Two FILEs: both masts on one plate with a legend and a table". Definitions only.
use Rattle.std.specs.Prelude.{ℕ, max, cond, List, [], ◌++◌, ltb}
use Rattle.answers.specs.declared.Kind.{Kind}
use Rattle.quoted.specs.Quoted.{quoted}
use Rattle.dial.specs.Scale.{peak_of}
use Rattle.captions.specs.declared.Heading.{Heading}
use Rattle.pair.specs.Drawn.{drawn_text}
use Rattle.pair.specs.Told.{told_text}

-- both masts are drawn on the scale of the greater peak
unfoldable pub greater_peak : List ℕ → List ℕ → ℕ
greater_peak first second = max (peak_of first) (peak_of second)

unfoldable pub pair_of : List ℕ → List Kind → Heading → List ℕ → List Kind → Heading → List ℕ
pair_of first first_kinds h second second_kinds i =
    drawn_text first first_kinds second second_kinds (greater_peak first second)
    ++ told_text first first_kinds h second second_kinds i
    ++ quoted "</svg>\n"

-- into a buffer of room bytes: nothing where there are under 131,072, or where a peak is over 1,000 dBi
unfoldable pub pair_in : ℕ → List ℕ → List Kind → Heading → List ℕ → List Kind → Heading → List ℕ
pair_in room first first_kinds h second second_kinds i =
    cond (ltb room 131072) []
    (cond (ltb 200000 (greater_peak first second)) [] (pair_of first first_kinds h second second_kinds i))
