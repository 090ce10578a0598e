-- `planet_lines::lines::push_loss` meets its contract: its angle is 3 bytes at most, its loss 7. Assumes nothing.
use mathlib.Core.Path.{refl}
use native.Mathlib.Omega.{arith}
use Rattle.std.proofs.Common.{rules}
use Rattle.quoted.specs.Quoted.{quoted}
use Rattle.words.proofs.Writing.{put_four, shorter}
use Rattle.hundredths.proofs.Text.{loss_length}
use Rattle.planet_lines.specs.Text.{loss_line}
use Rattle.planet_lines.proofs.Lengths.{angle-length}
use Rattle.planet_lines.proofs.lines.push_loss.Goals as goal

pub push_hundredths-requires : goal.push_hundredths-requires
push_hundredths-requires g c =
    let angle = shorter c.push_numeral.ensures (angle-length c.args.angle c.requires.1) in
    (search rules, omega arith)

pub push-requires-2 : goal.push-requires-2
push-requires-2 g c =
    let angle = shorter c.push_numeral.ensures (angle-length c.args.angle c.requires.1) in
    let loss = shorter c.push_hundredths.ensures (loss_length c.args.loss c.requires.2) in
    (search rules, omega arith)

pub returns : goal.returns
unfolding loss_line quoted
returns g c =
    let angle = shorter c.push_numeral.ensures (angle-length c.args.angle c.requires.1) in
    let loss = shorter c.push_hundredths.ensures (loss_length c.args.loss c.requires.2) in
    put_four angle c.push.ensures loss c.push-2.ensures refl (omega arith)
