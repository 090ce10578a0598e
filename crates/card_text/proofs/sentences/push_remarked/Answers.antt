-- `card_text::sentences::push_remarked` meets its contract. Assumes nothing.
use mathlib.Core.Path.{refl}
use native.Mathlib.Omega.{arith}
use Rattle.quoted.specs.Quoted.{quoted}
use Rattle.words.proofs.Writing.{put_four}
use Rattle.card_faults.specs.Faults.{remark}
use Rattle.card_text.specs.Sentences.{remark_text}
use Rattle.card_text.proofs.sentences.push_remarked.Goals as goal

pub returns-then-is_remarked : goal.returns-then-is_remarked
unfolding remark_text remark quoted
returns-then-is_remarked g c =
    rw (← c.is_remarked.ensures, ← c.line_of-line.ensures, ← c.word_at-word.ensures, c.if-is_remarked.true)
    (put_four c.push_number.ensures c.push_bytes.ensures c.push_name.ensures c.push_said.ensures refl (omega arith))
