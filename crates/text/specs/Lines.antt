-- Document 01, "Program `plate`": its lines, as ASCII bytes. Each ends in a line feed, 10; a space is 32. Definitions only.
use Rattle.std.specs.Prelude.{ℕ, zero, suc, List, [], ◌∷◌, ◌++◌, Float}
use Rattle.std.specs.Float.{binary32}
use Rattle.std.specs.Float.Ieee.{to_bits}
use Rattle.words.specs.Numbers.{decimal, hexadecimal}
use Rattle.answers.specs.Outcome.{Outcome, refused, accepted}
use Rattle.answers.specs.declared.Kind.{Kind}
use Rattle.answers.specs.declared.Kind.TheVariants.{Level, Floor, Silence}

-- `level`, `floor`, `silence`
unfoldable pub kind_name : Kind → List ℕ
kind_name Level = 108 ∷ 101 ∷ 118 ∷ 101 ∷ 108 ∷ []
kind_name Floor = 102 ∷ 108 ∷ 111 ∷ 111 ∷ 114 ∷ []
kind_name Silence = 115 ∷ 105 ∷ 108 ∷ 101 ∷ 110 ∷ 99 ∷ 101 ∷ []

-- azimuth, space, the digits of the number's bits, space, the kind's name
unfoldable pub line : ℕ → Float → List ℕ → List ℕ
line azimuth x kind = decimal azimuth ++ (32 ∷ []) ++ hexadecimal (to_bits binary32 x) ++ (32 ∷ []) ++ kind ++ (10 ∷ [])

-- `refused`, space, the number
unfoldable pub refusal_line : ℕ → List ℕ
refusal_line number = (114 ∷ 101 ∷ 102 ∷ 117 ∷ 115 ∷ 101 ∷ 100 ∷ 32 ∷ []) ++ decimal number ++ (10 ∷ [])

-- what is printed of an outcome: a refusal's line, or the text of what was accepted
unfoldable pub printed : {A : Type 0} → Outcome A → (A → List ℕ) → List ℕ
printed (refused number) text = refusal_line number
printed (accepted x) text = text x

-- the line of `ccirgain`'s answer at an azimuth
unfoldable pub gain_line : ℕ → Outcome (Kind × Float) → List ℕ
gain_line azimuth answer = printed answer λ (g : Kind × Float). line azimuth g.1 (kind_name g.0)

-- the lines of the answers at the azimuths below n
unfoldable pub lines_to : (ℕ → Outcome (Kind × Float)) → ℕ → List ℕ
lines_to answers zero = []
lines_to answers (suc v) = lines_to answers v ++ gain_line v (answers v)
