-- `pair::drawn::push_masts` meets its contract. Assumes nothing.
use native.Mathlib.Omega.{arith}
use Rattle.quoted.specs.Quoted.{quoted}
use Rattle.words.proofs.Writing.{joined, at_most}
use Rattle.pair.specs.Drawn.{masts_text, first_text, second_text}
use Rattle.pair.proofs.drawn.push_masts.Goals as goal

pub returns : goal.returns
unfolding masts_text first_text second_text quoted
returns g c = at_most (joined c.push_mast.ensures c.push_mast-2.ensures) (omega arith)
