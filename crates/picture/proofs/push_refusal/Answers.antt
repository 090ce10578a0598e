-- `picture::push_refusal` meets its contract. Assumes nothing.
use native.Mathlib.Omega.{arith}
use Rattle.quoted.specs.Quoted.{quoted}
use Rattle.words.proofs.Writing.{joined, at_most}
use Rattle.picture.specs.Picture.{refusal_of}
use Rattle.picture.proofs.push_refusal.Goals as goal

pub returns : goal.returns
unfolding refusal_of quoted
returns g c =
    let mast = joined (joined c.push_open.ensures c.push_bytes.ensures) c.push_mast.ensures in
    let number = joined (joined mast c.push_whole.ensures) c.push_bytes-2.ensures in
    at_most (joined (joined number c.push_sentence.ensures) c.push_bytes-3.ensures) (omega arith)
