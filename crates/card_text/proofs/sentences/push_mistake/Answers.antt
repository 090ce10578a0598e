-- `card_text::sentences::push_mistake` meets its contract. Assumes nothing.
use mathlib.Core.Path.{refl}
use native.Mathlib.Omega.{arith}
use Rattle.quoted.specs.Quoted.{quoted}
use Rattle.words.proofs.Writing.{put_four}
use Rattle.card_text.specs.Sentences.{mistake_text}
use Rattle.card_text.proofs.sentences.push_mistake.Goals as goal

pub returns : goal.returns
unfolding mistake_text quoted
returns g c =
    rw (← c.gain_field.ensures, ← c.line_of-earlier.ensures) (put_four c.push_number.ensures c.push_bytes.ensures c.push_subject.ensures c.push_said_of.ensures refl (omega arith))
