-- `captions::push_dot` meets its contract. Assumes nothing.
use mathlib.Core.Path.{refl}
use native.Mathlib.Omega.{arith}
use Rattle.quoted.specs.Quoted.{quoted}
use Rattle.words.proofs.Writing.{put_three}
use Rattle.captions.specs.Words.{dot_text}
use Rattle.captions.proofs.push_dot.Goals as goal

pub returns : goal.returns
unfolding dot_text quoted
returns g c = put_three c.push_whole.ensures c.push_whole-2.ensures c.push_bytes.ensures refl (omega arith)
