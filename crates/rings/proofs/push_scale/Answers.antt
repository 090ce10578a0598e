-- `rings::push_scale` meets its contract. Assumes nothing.
use mathlib.Core.Path.{refl}
use native.Mathlib.Omega.{arith}
use Rattle.quoted.specs.Quoted.{quoted}
use Rattle.words.proofs.Writing.{put_four}
use Rattle.rings.specs.Rings.{scale_text}
use Rattle.rings.proofs.push_scale.Goals as goal

pub returns : goal.returns
unfolding scale_text quoted
returns g c = put_four c.push_bytes.ensures c.push_bytes-2.ensures c.push_rings.ensures c.push_bytes-3.ensures refl (omega arith)
