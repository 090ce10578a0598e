-- The sentence of a card: of its first mistake, or of a remark. Definitions only.
use Rattle.std.specs.Prelude.{ℕ, ◌-◌, Bool, not, cond, ◌&&◌, ◌||◌, List, [], ◌∷◌, ◌++◌, eqb, ltb, Float, length, Result, Ok, Err}
use Rattle.answers.specs.Outcome.{Outcome, refused, accepted, number}
use Rattle.answers.specs.Refusals.{SPACE}
use Rattle.words.specs.Laid.{laid}
use Rattle.floats.specs.Literals.{two, thirty}
use Rattle.floats.specs.Ranges.{between}
use Rattle.quoted.specs.Quoted.{quoted}
use Rattle.decimal.specs.Reading as decimal
use Rattle.fields.specs.declared.Kind.{Kind}
use Rattle.fields.specs.Names.{GAIN, GAIN_RATIO, GAIN_MHZ, MHZ, name_of}
use Rattle.fields.specs.Table.{is_maximum_gain, mode_of, has_field, count_of}
use Rattle.card.specs.declared.mistakes.Fault.{Fault}
use Rattle.card.specs.declared.mistakes.Fault.TheVariants.{Unknown, Twice, Foreign, TooFew, TooMany, NotANumber, TooLarge, Limit, Missing}
use Rattle.card.specs.declared.mistakes.Mistake.{Mistake}
use Rattle.card.specs.declared.Reading.{Reading}
use Rattle.card.specs.Card.{Card, Line, card_of, line_at, word, line_of, line_for}
use Rattle.card.specs.Kind.{kind_in}
use Rattle.card.specs.Places.{read_value}
use Rattle.card.specs.Reading.{read_of}
use Rattle.card_words.specs.Pieces.{shown, told}
use Rattle.card_faults.specs.Faults.{twice, foreign, second_gain, too_few, too_many, not_a_number, too_large, limit, missing, remark}

-- ---- a field that the kind doesn't have

-- the type has it, in another mode: a second maximum gain
unfoldable pub is_second : Kind → ℕ → Bool
is_second kind f = is_maximum_gain f && has_field (record { iant = kind.iant; mode = mode_of f }) f

-- the maximum gain field of a mode
unfoldable pub gain_field : ℕ → ℕ
gain_field mode = cond (eqb mode 1) GAIN_RATIO (cond (eqb mode 2) GAIN_MHZ GAIN)

-- earlier is the line of the card's own maximum gain
unfoldable pub not_had : Kind → ℕ → ℕ → List ℕ
not_had kind earlier f = cond (is_second kind f) (second_gain earlier (gain_field kind.mode)) (foreign kind.iant)

-- ---- a mistake

-- what is said of field f in a line; k is the number that it is about
unfoldable pub said_of : Kind → ℕ → Fault → Line → ℕ → ℕ → List ℕ
said_of kind earlier Unknown line f k = quoted ": there is no such field"
said_of kind earlier (Twice i) line f k = twice i
said_of kind earlier Foreign line f k = not_had kind earlier f
said_of kind earlier TooFew line f k = too_few (length line - 1) (count_of kind f)
said_of kind earlier TooMany line f k = too_many (length line - 1) (count_of kind f)
said_of kind earlier NotANumber line f k = not_a_number (word line k)
said_of kind earlier TooLarge line f k = too_large (word line k)
said_of kind earlier (Limit refusal) line f k = limit (word line k) f k (read_value (decimal.read_of (word line k))) (number refusal)
said_of kind earlier Missing line f k = missing f

-- a field's name; where there is no such field, the word that stands there
unfoldable pub subject : Line → ℕ → List ℕ
subject line f = cond (eqb f 0) (shown (word line 0)) (name_of f)

-- line, field, and what is said of it
unfoldable pub mistake_text : Kind → Card → Mistake → List ℕ
mistake_text kind card m =
    let line = line_at card m.line in
    let earlier = line_of card (gain_field kind.mode) in
    told m.line ++ quoted ": " ++ subject line m.field ++ said_of kind earlier m.what line m.field m.number

-- ---- a remark

-- document 01 takes a mode 1 frequency outside 2 to 30 MHz as 10
unfoldable pub is_remarked : ℕ → Float → Bool
is_remarked mode mhz = eqb mode 1 && not (between mhz two thirty)

unfoldable pub remark_text : Card → ℕ → Float → List ℕ
remark_text card mode mhz =
    cond (is_remarked mode mhz) (told (line_of card MHZ) ++ quoted ": " ++ name_of MHZ ++ remark (word (line_for card MHZ) 1)) []

-- ---- the sentence: nothing for a good card without a remark

unfoldable pub spoken : Card → Result Reading Mistake → List ℕ
spoken card (Err m) = mistake_text (kind_in card) card m
spoken card (Ok r) = remark_text card r.station.mode r.mhz

unfoldable pub sentence_of : List ℕ → List ℕ
sentence_of text = spoken (card_of text) (read_of text)

-- the sentence's length and the lent bytes afterwards
unfoldable pub sentence_in : List ℕ → List ℕ → Outcome ℕ × List ℕ
sentence_in text lent =
    let s = sentence_of text in
    cond (ltb (length lent) 256) (refused SPACE, lent) (accepted (length s), laid lent 0 s)

-- what a program prints: the sentence and a line feed, if there is one; nothing into a buffer of under 256 bytes
unfoldable pub line_in : ℕ → List ℕ → List ℕ
line_in room text =
    let s = sentence_of text in
    cond (ltb room 256 || eqb (length s) 0) [] (s ++ (10 ∷ []))
