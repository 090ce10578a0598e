-- `captions::push_head` meets its contract. Assumes nothing.
use mathlib.Core.Path.{refl}
use native.Mathlib.Omega.{arith}
use Rattle.quoted.specs.Quoted.{quoted}
use Rattle.words.proofs.Writing.{put_five}
use Rattle.captions.specs.Words.{head_text}
use Rattle.captions.proofs.push_head.Goals as goal

pub returns : goal.returns
unfolding head_text quoted
returns g c = put_five c.push_bytes.ensures c.push_name.ensures c.push_reading.ensures c.push_whole.ensures c.push_bytes-2.ensures refl (omega arith)
