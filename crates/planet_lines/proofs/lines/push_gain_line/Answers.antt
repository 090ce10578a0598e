-- `planet_lines::lines::push_gain_line` meets its contract: its gain is 8 bytes at most. Assumes nothing.
use mathlib.Core.Path.{refl}
use native.Mathlib.Omega.{arith}
use Rattle.std.proofs.Common.{rules}
use Rattle.quoted.specs.Quoted.{quoted}
use Rattle.words.proofs.Writing.{put_four, shorter}
use Rattle.planet_lines.specs.Text.{gain_line}
use Rattle.planet_lines.proofs.Lengths.{lowered-length}
use Rattle.planet_lines.proofs.lines.push_gain_line.Goals as goal

pub push_bytes-requires-2 : goal.push_bytes-requires-2
push_bytes-requires-2 g c =
    let gain = shorter c.push_raised.ensures (lowered-length c.args.raised c.requires.1) in
    (search rules, omega arith)

pub push-requires : goal.push-requires
push-requires g c =
    let gain = shorter c.push_raised.ensures (lowered-length c.args.raised c.requires.1) in
    (search rules, omega arith)

pub returns : goal.returns
unfolding gain_line quoted
returns g c =
    let gain = shorter c.push_raised.ensures (lowered-length c.args.raised c.requires.1) in
    put_four c.push_bytes.ensures gain c.push_bytes-2.ensures c.push.ensures refl (omega arith)
