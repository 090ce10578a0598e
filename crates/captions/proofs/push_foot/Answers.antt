-- `captions::push_foot` meets its contract. Assumes nothing.
use mathlib.Core.Path.{refl}
use native.Mathlib.Omega.{arith}
use Rattle.quoted.specs.Quoted.{quoted}
use Rattle.words.proofs.Writing.{put_four}
use Rattle.captions.specs.Words.{foot_text}
use Rattle.captions.proofs.push_foot.Goals as goal

pub returns : goal.returns
unfolding foot_text quoted
returns g c = put_four c.push_reading.ensures c.push_whole.ensures c.push_difference.ensures c.push_bytes.ensures refl (omega arith)
