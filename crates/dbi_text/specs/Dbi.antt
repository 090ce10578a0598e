-- Issue 27, "`--dbi`: azimuth, gain in dBi with two decimals, kind": its text in ASCII. Definitions only.
use Rattle.std.specs.Prelude.{ℕ, suc, cond, List, [], ◌∷◌, ◌++◌, ltb}
use Rattle.quoted.specs.Quoted.{quoted}
use Rattle.numerals.specs.Numeral.{numeral}
use Rattle.hundredths.specs.Decimals.{two_decimals}
use Rattle.text.specs.Lines.{kind_name, printed}
use Rattle.shown.specs.Plate.{Entry}
use Rattle.shown.specs.Shown.{shown_of}

-- words one space apart, as `plate` has them, and a line feed
unfoldable pub entry_line : ℕ → Entry → List ℕ
entry_line azimuth e = numeral azimuth ++ quoted " " ++ two_decimals e.1 ++ quoted " " ++ kind_name e.0 ++ (10 ∷ [])

-- the lines of entries from an azimuth on
unfoldable pub lines_from : ℕ → List Entry → List ℕ
lines_from azimuth [] = []
lines_from azimuth (e ∷ rest) = entry_line azimuth e ++ lines_from (suc azimuth) rest

-- the lines of the plate from azimuth 0 on, or the refusal's line, as `plate` has it
unfoldable pub dbi_text : List ℕ → List ℕ
dbi_text input = printed (shown_of input) (lines_from 0)

-- what is written into a buffer of room bytes: all of the text, or nothing where there are under 12,288
unfoldable pub text_in : ℕ → List ℕ → List ℕ
text_in room input = cond (ltb room 12288) [] (dbi_text input)
