-- Issue 27: the whole text of `--compare A B`, by the bytes of both masts and the azimuth of the base. Definitions only.
use Rattle.std.specs.Prelude.{ℕ, ◌+◌, ◌*◌, cond, not, List, [], ◌++◌, ltb, eqb, length, take, drop, get_or}
use Rattle.answers.specs.Outcome.{Outcome, refused, accepted}
use Rattle.quoted.specs.Quoted.{quoted}
use Rattle.shown.specs.Plate.{Entry}
use Rattle.shown.specs.Rows.{numbers_of, kinds_of}
use Rattle.shown.specs.Shown.{shown_of}
use Rattle.comparison.specs.Masts.{A, B}
use Rattle.comparison.specs.Lines.{lines_of, refused_line}

unfoldable pub plates_text : ℕ → List Entry → List Entry → List ℕ
plates_text base a b = lines_of base (numbers_of a) (kinds_of a) (numbers_of b) (kinds_of b)

-- a line for each mast that is refused, and nothing else; or the lines of both plates
unfoldable pub answers_text : ℕ → Outcome (List Entry) → Outcome (List Entry) → List ℕ
answers_text base (refused n) (refused m) = refused_line A n ++ refused_line B m
answers_text base (refused n) (accepted b) = refused_line A n
answers_text base (accepted a) (refused m) = refused_line B m
answers_text base (accepted a) (accepted b) = plates_text base a b

-- a base above 359 is refused before all else
unfoldable pub compare_text : List ℕ → List ℕ → ℕ → List ℕ
compare_text first second base =
    cond (ltb 359 base) (quoted "base: refused 7\n") (answers_text base (shown_of first) (shown_of second))

-- what is written into a buffer of room bytes: all of the text, or nothing where there are under 2,048
unfoldable pub compare_in : ℕ → List ℕ → List ℕ → ℕ → List ℕ
compare_in room first second base = cond (ltb room 2048) [] (compare_text first second base)

-- ---- the program: its input is the base in two bytes, the greater first, then the 237 of each mast; any other length is refused as `plate` refuses it
unfoldable pub output_text : List ℕ → List ℕ
output_text input =
    cond (not (eqb (length input) 476)) (quoted "refused 1\n")
    (compare_text (take 237 (drop 2 input)) (drop 239 input) (get_or input 0 0 * 256 + get_or input 1 0))

unfoldable pub output_in : ℕ → List ℕ → List ℕ
output_in room input = cond (ltb room 2048) [] (output_text input)
