-- `picture::push_open` meets its contract. Assumes nothing.
use mathlib.Core.Path.{refl}
use native.Mathlib.Omega.{arith}
use Rattle.quoted.specs.Quoted.{quoted}
use Rattle.words.proofs.Writing.{put_two}
use Rattle.picture.specs.Picture.{open_text}
use Rattle.picture.proofs.push_open.Goals as goal

pub returns : goal.returns
unfolding open_text quoted
returns g c = put_two c.push_bytes.ensures c.push_bytes-2.ensures refl (omega arith)
