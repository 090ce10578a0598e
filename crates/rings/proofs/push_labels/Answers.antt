-- `rings::push_labels` meets its contract. Assumes nothing.
use mathlib.Core.Path.{refl}
use native.Mathlib.Omega.{arith}
use Rattle.quoted.specs.Quoted.{quoted}
use Rattle.words.proofs.Writing.{put_four}
use Rattle.rings.specs.Rings.{labels_text}
use Rattle.rings.proofs.push_labels.Goals as goal

pub returns : goal.returns
unfolding labels_text quoted
returns g c = put_four c.push_bytes.ensures c.push_bottom_label.ensures c.push_upper_labels.ensures c.push_bytes-2.ensures refl (omega arith)
