-- Document 02, card 14: the text, of MSI Planet's form. "Words stand one space apart", and each line ends in LF. Definitions only.
use Rattle.std.specs.Prelude.{ℕ, zero, suc, List, [], ◌∷◌, ◌++◌, ℤ, Float}
use Rattle.std.specs.Float.Ieee.{to_signed}
use Rattle.quoted.specs.Quoted.{quoted}
use Rattle.numerals.specs.Numeral.{numeral}
use Rattle.hundredths.specs.Decimals.{two_decimals}
use Rattle.floats.specs.Rounding.{natural}
use Rattle.model.specs.Types.{jant_of}
use Rattle.model.specs.Limits.{slot}
use Rattle.planet_lines.specs.Losses.{greatest, loss_at}

-- LF
abbrev pub newline : List ℕ
newline = 10 ∷ []

-- a word with a whole number
unfoldable pub whole_line : List ℕ → ℕ → List ℕ
whole_line word n = word ++ numeral n ++ newline

-- "`GAIN`, the horizontal row's greatest number and `dBi`"
unfoldable pub gain_line : ℤ → List ℕ
gain_line g = quoted "GAIN " ++ two_decimals g ++ quoted " dBi" ++ newline

-- "angle, one space and loss"
unfoldable pub loss_line : ℕ → ℤ → List ℕ
loss_line angle loss = numeral angle ++ quoted " " ++ two_decimals loss ++ newline

-- the lines of the angles below n
unfoldable pub lines_to : (ℕ → ℤ) → ℕ → List ℕ
lines_to loss zero = []
lines_to loss (suc angle) = lines_to loss angle ++ loss_line angle (loss angle)

-- a part by its word and numbers: how many lines follow, and 360 lines
unfoldable pub part_text : List ℕ → List Float → List ℕ
part_text word numbers = whole_line word 360 ++ lines_to (loss_at numbers) 360

-- "slot 4's MHz as set-up gets it, truncated"
unfoldable pub mhz_of : Float → ℕ
mhz_of x = natural (to_signed 31 x)

-- the lines before the parts, by the parameters as set-up got them and the greatest hundredths of the horizontal part
unfoldable pub header_text : List Float → ℤ → List ℕ
header_text parm gain =
    whole_line (quoted "NAME T") (jant_of (slot parm 1)) ++ whole_line (quoted "FREQUENCY ") (mhz_of (slot parm 4)) ++ gain_line gain

-- the whole text, by the numbers of the two parts
unfoldable pub text_of : List Float → List Float → List Float → List ℕ
text_of parm horizontal vertical =
    header_text parm (greatest horizontal) ++ part_text (quoted "HORIZONTAL ") horizontal ++ part_text (quoted "VERTICAL ") vertical
