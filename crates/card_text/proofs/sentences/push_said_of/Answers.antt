-- `card_text::sentences::push_said_of` meets its contract: two of its cases, which the attribute leaves. Assumes nothing.
use native.Mathlib.Omega.{arith}
use Rattle.quoted.specs.Quoted.{quoted}
use Rattle.words.proofs.Writing.{at_most}
use Rattle.card_faults.specs.Faults.{too_few, too_large}
use Rattle.card_text.specs.Sentences.{said_of}
use Rattle.card_text.proofs.sentences.push_said_of.Goals as goal

pub returns-in-TooFew : goal.returns-in-TooFew
unfolding said_of too_few quoted
returns-in-TooFew g c = rw (c.in-TooFew.is, ← c.numbers_in-count.ensures, ← c.count_of-wanted.ensures) (at_most c.push_counts.ensures (omega arith))

pub returns-in-TooLarge : goal.returns-in-TooLarge
unfolding said_of too_large quoted
returns-in-TooLarge g c = rw (c.in-TooLarge.is, ← c.word_at-word.ensures) (at_most c.push_said-in-TooLarge.ensures (omega arith))
