-- Issue 27: "both masts on one plate with a legend". Definitions only.
use Rattle.std.specs.Prelude.{ℕ, Bool, cond, List, [], ◌++◌}
use Rattle.quoted.specs.Quoted.{quoted}
use Rattle.captions.specs.Words.{name_of}

-- the first mast's stroke, thin and black, and the second's, broad and grey, each before its name
unfoldable pub legend_text : ℕ → ℕ → List ℕ
legend_text first second =
    quoted "<path d='M -850 -300 H -150' stroke='#000' stroke-width='36'/>\n<path d='M -850 80 H -150' stroke='#aaa' stroke-width='100'/>\n"
    ++ quoted "<text x='0' y='-210'>A: " ++ name_of first
    ++ quoted "</text>\n<text x='0' y='170'>B: " ++ name_of second
    ++ quoted "</text>\n"

-- what dashes mean, where one of the masts has floors
unfoldable pub dashed_text : Bool → List ℕ
dashed_text floors = cond floors (quoted "<text x='8850' y='7370' text-anchor='end'>dashed: floor</text>\n") []
