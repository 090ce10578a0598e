-- `rings::push_bottom_label` meets its contract. Assumes nothing.
use mathlib.Core.Path.{refl}
use native.Mathlib.Omega.{arith}
use Rattle.quoted.specs.Quoted.{quoted}
use Rattle.words.proofs.Writing.{put_three}
use Rattle.rings.specs.Rings.{bottom_label}
use Rattle.rings.proofs.push_bottom_label.Goals as goal

pub returns : goal.returns
unfolding bottom_label quoted
returns g c =
    let low = rw c.bottom.ensures.0 at c.push_dbi.ensures in
    put_three c.push_bytes.ensures low c.push_bytes-2.ensures refl (omega arith)
