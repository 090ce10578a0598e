-- `rings::push_label` meets its contract. Assumes nothing.
use mathlib.Core.Path.{refl}
use native.Mathlib.Omega.{arith}
use Rattle.quoted.specs.Quoted.{quoted}
use Rattle.words.proofs.Writing.{put_four}
use Rattle.rings.specs.Rings.{label_text}
use Rattle.rings.proofs.push_label.Goals as goal

pub returns : goal.returns
unfolding label_text quoted
returns g c =
    let height = rw c.label_height.ensures at c.push_whole.ensures in
    put_four height c.push_bytes.ensures c.push_dbi.ensures c.push_bytes-2.ensures refl (omega arith)
