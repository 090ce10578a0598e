-- `rings::push_ring` meets its contract. Assumes nothing.
use mathlib.Core.Path.{refl}
use native.Mathlib.Omega.{arith}
use Rattle.quoted.specs.Quoted.{quoted}
use Rattle.words.proofs.Writing.{put_two}
use Rattle.rings.specs.Rings.{ring_text}
use Rattle.rings.proofs.push_ring.Goals as goal

pub returns : goal.returns
unfolding ring_text quoted
returns g c = put_two c.push_whole.ensures c.push_bytes.ensures refl (omega arith)
