-- `planet_lines::lines::push_text` meets its contract: the header, then the two parts. Assumes nothing.
use mathlib.Core.Path.{◌≡◌, refl}
use native.Mathlib.Omega.{arith}
use Rattle.quoted.specs.Quoted.{quoted}
use Rattle.words.proofs.Writing.{put_three}
use Rattle.planet_lines.specs.Losses.{top}
use Rattle.planet_lines.specs.Text.{text_of}
use Rattle.planet_lines.proofs.Greatest.{lowered-top}
use Rattle.planet_lines.proofs.lines.push_text.Goals as goal

pub returns : goal.returns
unfolding text_of quoted
returns g c =
    let around = c.new-around in
    let horizontal = c.requires.horizontal_nonzero in
    let greatest : around.result.greatest ≡ top c.args.horizontal.now = rw (around.result.highest, around.ensures.same) in
    let header = rw (greatest, lowered-top c.args.horizontal.now horizontal.1 horizontal.0) at c.push_header.ensures in
    let first = rw around.ensures.same at c.push.ensures in
    let second = rw c.new.ensures.same at c.push-2.ensures in
    put_three header first second refl (omega arith)
