-- The calls of cards: what each returns, and what it leaves in the lent slices. Definitions only.
use Rattle.std.specs.Prelude.{ℕ, cond, not, List, eqb, ltb, length, Result, Ok, Err}
use Rattle.answers.specs.Outcome.{number}
use Rattle.answers.specs.Refusals.{RECORD, SPACE}
use Rattle.packed.specs.Packed.{refused_as, counted}
use Rattle.card.specs.declared.NoStation.{NoStation}
use Rattle.card.specs.declared.NoStation.TheVariants.{Mistaken, Refused}
use Rattle.card.specs.Card.{card_of}
use Rattle.card.specs.Kind.{kind_in}
use Rattle.card.specs.Reading.{written_of}
use Rattle.card_text.specs.Sentences.{sentence_in}
use Rattle.card_text.specs.Numbers.{mistake_words}
use Rattle.card_back.specs.Back.{back_of}

-- ---- reading: the number, the station's bytes and the mistake's words afterwards

-- 0 for a station; 1 for a mistake, with its words; another refusal
unfoldable pub told_of : List ℕ → List ℕ → List ℕ → Result (Unit {0}) NoStation → ℕ × (List ℕ × List ℕ)
told_of text bytes words (Ok u) = (0, (bytes, words))
told_of text bytes words (Err (Refused r)) = (number r, (bytes, words))
told_of text bytes words (Err (Mistaken m)) = (RECORD, (bytes, mistake_words (kind_in (card_of text)) (card_of text) m))

-- 8 for words of another number; for other than 237 bytes the reader itself answers 8
unfoldable pub read_call : List ℕ → List ℕ → List ℕ → ℕ × (List ℕ × List ℕ)
read_call text station words =
    let w = written_of text station in
    cond (not (eqb (length words) 6)) (SPACE, (station, words)) (told_of text w.1 words w.0)

-- ---- the sentence

-- the length, or the refusal's number under kind 3
unfoldable pub tell_call : List ℕ → List ℕ → ℕ × List ℕ
tell_call text out = let w = sentence_in text out in (counted w.0, w.1)

-- ---- the card of a station

-- the length; 8 first for under 8,192 bytes
unfoldable pub write_call : List ℕ → List ℕ → ℕ × List ℕ
write_call station out = let b = back_of station out in cond (ltb (length out) 8192) (refused_as SPACE, out) (counted b.0, b.1)
