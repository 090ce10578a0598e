-- A mistake as numbers, for callers that keep its sentence in words of their own. Definitions only.
use Rattle.std.specs.Prelude.{ℕ, cond, List, [], ◌∷◌}
use Rattle.answers.specs.Outcome.{number}
use Rattle.fields.specs.declared.Kind.{Kind}
use Rattle.card.specs.declared.mistakes.Fault.{Fault}
use Rattle.card.specs.declared.mistakes.Fault.TheVariants.{Unknown, Twice, Foreign, TooFew, TooMany, NotANumber, TooLarge, Limit, Missing}
use Rattle.card.specs.declared.mistakes.Mistake.{Mistake}
use Rattle.card.specs.Card.{Card, line_of}
use Rattle.card_text.specs.declared.numbers.What.{What}
use Rattle.card_words.specs.Pieces.{capped}
use Rattle.card_text.specs.Sentences.{is_second, gain_field}

abbrev pub what_is : ℕ → ℕ → ℕ → What
what_is number earlier refusal = record { number = number; earlier = earlier; refusal = refusal }

-- a fault's number, the earlier line that it names and the refusal that it breaks, 0 where it has none; `earlier` is the line of the card's own maximum gain
unfoldable pub what_of : Kind → ℕ → ℕ → Fault → What
what_of kind earlier f Unknown = what_is 1 0 0
what_of kind earlier f (Twice i) = what_is 2 i 0
what_of kind earlier f Foreign = cond (is_second kind f) (what_is 4 earlier 0) (what_is 3 0 0)
what_of kind earlier f TooFew = what_is 5 0 0
what_of kind earlier f TooMany = what_is 6 0 0
what_of kind earlier f NotANumber = what_is 7 0 0
what_of kind earlier f TooLarge = what_is 8 0 0
what_of kind earlier f (Limit refusal) = what_is 9 0 (number refusal)
what_of kind earlier f Missing = what_is 10 0 0

-- what, line, field, number, earlier line, refusal
unfoldable pub mistake_words : Kind → Card → Mistake → List ℕ
mistake_words kind card m =
    let w = what_of kind (line_of card (gain_field kind.mode)) m.field m.what in
    w.number ∷ capped m.line ∷ capped m.field ∷ capped m.number ∷ capped w.earlier ∷ w.refusal ∷ []
