-- `card_faults::faults::push_limit` meets its contract: the word, the end that it breaks, the refusal. Assumes nothing.
use mathlib.Core.Path.{refl}
use native.Mathlib.Omega.{arith}
use Rattle.quoted.specs.Quoted.{quoted}
use Rattle.answers.specs.Outcome.{number}
use Rattle.words.proofs.Writing.{put_four}
use Rattle.card_faults.specs.Faults.{limit}
use Rattle.card_faults.proofs.Lengths.{broken_short, refused_short}
use Rattle.card_faults.proofs.faults.push_limit.Goals as goal

pub returns : goal.returns
unfolding limit quoted
returns g c =
    let a = c.args in
    let said = rw c.broken.ensures at c.push_bytes-2.ensures in
    let refused = rw c.refused_text.ensures at c.push_bytes-3.ensures in
    put_four c.push_bytes.ensures c.push_shown.ensures said refused refl (omega (arith, broken_short a.f a.number a.x, refused_short (number a.refusal)))
