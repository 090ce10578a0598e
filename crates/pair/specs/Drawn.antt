-- Issue 27: "both masts on one plate": what is drawn of them. Definitions only.
use Rattle.std.specs.Prelude.{ℕ, false, List, ◌++◌}
use Rattle.answers.specs.declared.Kind.{Kind}
use Rattle.quoted.specs.Quoted.{quoted}
use Rattle.curve.specs.declared.Stroke.TheVariants as stroke
use Rattle.curve.specs.Curve.{stroke_text}
use Rattle.rings.specs.Rings.{within, scale_text, labels_text}
use Rattle.captions.specs.Words.{winds_text}

-- a white square of 10,000 that holds a plate of 8,000 with room around it, shown 800 wide and high
unfoldable pub open_text : List ℕ
open_text =
    quoted "<svg xmlns='http://www.w3.org/2000/svg' width='800' height='800' viewBox='-1000 -600 10000 10000' font-family='sans-serif' font-size='270'>\n"
    ++ quoted "<rect x='-1000' y='-600' width='10000' height='10000' fill='#fff'/>\n"

-- a mast's levels and its floors, on the scale of a peak, after the words that open them
unfoldable pub mast_text : List ℕ → List ℕ → List ℕ → List Kind → ℕ → List ℕ
mast_text opening floors numbers kinds peak =
    opening
    ++ stroke_text (quoted "<path d='") numbers kinds false peak stroke.Levels
    ++ stroke_text floors numbers kinds false peak stroke.Floors
    ++ quoted "</g>\n"

-- the first mast is thin and black
unfoldable pub first_text : List ℕ → List Kind → ℕ → List ℕ
first_text numbers kinds peak =
    mast_text
    (quoted "<g fill='none' stroke='#000' stroke-width='36' stroke-linecap='round' stroke-linejoin='round'>\n")
    (quoted "<path stroke-dasharray='50 160' stroke-dashoffset='-85' d='")
    numbers
    kinds
    peak

-- the second is broad and grey; its dots lie between the first's dashes, where both are floors
unfoldable pub second_text : List ℕ → List Kind → ℕ → List ℕ
second_text numbers kinds peak =
    mast_text
    (quoted "<g fill='none' stroke='#aaa' stroke-width='100' stroke-linecap='round' stroke-linejoin='round'>\n")
    (quoted "<path stroke-dasharray='20 190' d='")
    numbers
    kinds
    peak

-- the first mast is drawn above the second
unfoldable pub masts_text : List ℕ → List Kind → List ℕ → List Kind → ℕ → List ℕ
masts_text first first_kinds second second_kinds peak = second_text second second_kinds peak ++ first_text first first_kinds peak

-- the labels stand on the side of their rings that the first mast's curve leaves free
unfoldable pub drawn_text : List ℕ → List Kind → List ℕ → List Kind → ℕ → List ℕ
drawn_text first first_kinds second second_kinds peak =
    open_text
    ++ scale_text peak
    ++ masts_text first first_kinds second second_kinds peak
    ++ labels_text (within first) peak
    ++ winds_text
