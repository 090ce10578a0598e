-- `captions::push_winds` meets its contract. Assumes nothing.
use mathlib.Core.Path.{refl}
use native.Mathlib.Omega.{arith}
use Rattle.quoted.specs.Quoted.{quoted}
use Rattle.words.proofs.Writing.{put_two}
use Rattle.captions.specs.Words.{winds_text}
use Rattle.captions.proofs.push_winds.Goals as goal

pub returns : goal.returns
unfolding winds_text quoted
returns g c = put_two c.push_bytes.ensures c.push_bytes-2.ensures refl (omega arith)
