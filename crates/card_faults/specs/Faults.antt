-- What is said of a field, after its name: one definition for each mistake. Definitions only.
use Rattle.std.specs.Prelude.{ℕ, cond, List, ◌++◌, eqb, Float}
use Rattle.quoted.specs.Quoted.{quoted}
use Rattle.fields.specs.Names.{GAIN, name_of}
use Rattle.fields.specs.Table.{CURTAIN}
use Rattle.card_words.specs.Pieces.{shown, told}
use Rattle.card_faults.specs.Limits.{broken, refused_text}

unfoldable pub twice : ℕ → List ℕ
twice earlier = quoted ": given twice, first at line " ++ told earlier

-- another type's field, on a card of this type
unfoldable pub foreign : ℕ → List ℕ
foreign iant =
    cond (eqb iant CURTAIN) (quoted ": the curtain has no such field")
    (quoted ": type " ++ told iant ++ quoted " has no such field")

-- an earlier line has another maximum gain field
unfoldable pub second_gain : ℕ → ℕ → List ℕ
second_gain earlier other = quoted ": a second maximum gain, line " ++ told earlier ++ quoted " has " ++ name_of other

-- n numbers are there, and m belong there
unfoldable pub too_few : ℕ → ℕ → List ℕ
too_few n m = quoted ": too few numbers, " ++ told n ++ quoted " of " ++ told m

unfoldable pub too_many : ℕ → ℕ → List ℕ
too_many n m = quoted ": too many numbers, " ++ told n ++ quoted " for " ++ told m

unfoldable pub not_a_number : List ℕ → List ℕ
not_a_number word = quoted ": " ++ shown word ++ quoted " is not a number"

unfoldable pub too_large : List ℕ → List ℕ
too_large word = quoted ": " ++ shown word ++ quoted " is too large"

-- the word is read as x, which the field doesn't take as its first, second ..
unfoldable pub limit : List ℕ → ℕ → ℕ → Float → ℕ → List ℕ
limit word f number x refusal = quoted ": " ++ shown word ++ broken f number x ++ refused_text refusal

unfoldable pub missing : ℕ → List ℕ
missing f = cond (eqb f GAIN) (quoted ": no maximum gain is given") (quoted ": missing")

-- no mistake: a frequency that document 01 takes as another
unfoldable pub remark : List ℕ → List ℕ
remark word = quoted ": " ++ shown word ++ quoted " is outside 2 to 30 and counts as 10 MHz"
