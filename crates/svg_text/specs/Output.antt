-- Issue 27: the output of the program `svg`, for any bytes: "`--svg`", "`--fold`" and "Two FILEs" as one byte before the stations. Definitions only.
use Rattle.std.specs.Prelude.{ℕ, cond, None, List, [], length, get_or, take, drop, ltb, eqb}
use Rattle.answers.specs.Refusals.{RECORD}
use Rattle.picture.specs.Picture.{refusal_in}
use Rattle.svg_text.specs.Svg.{svg_in, svg_two_in}

-- the 237 bytes of a station, from an index on
abbrev pub station_at : ℕ → List ℕ → List ℕ
station_at at input = take 237 (drop at input)

-- a station after its byte: 0 its plate, 1 with what is folded over shown apart
unfoldable pub plate_for : ℕ → List ℕ → List ℕ
plate_for room input =
    let asked = get_or input 0 0 in
    cond (ltb 1 asked) (refusal_in room None RECORD) (svg_in room (station_at 1 input) (eqb asked 1))

-- two stations after their byte, a 2
unfoldable pub masts_for : ℕ → List ℕ → List ℕ
masts_for room input =
    cond (eqb (get_or input 0 0) 2) (svg_two_in room (station_at 1 input) (station_at 238 input)) (refusal_in room None RECORD)

-- into a buffer of room bytes: nothing where there are under 131,072. All other inputs are no station: refusal 1
unfoldable pub output_in : ℕ → List ℕ → List ℕ
output_in room input =
    cond (ltb room 131072) []
    (cond (eqb (length input) 238) (plate_for room input)
    (cond (eqb (length input) 475) (masts_for room input) (refusal_in room None RECORD)))
