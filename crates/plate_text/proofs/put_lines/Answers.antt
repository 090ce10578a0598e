-- `plate_text::put_lines` meets its contract: the lines so far, and one more. Assumes nothing.
use mathlib.Core.Path.{refl}
use native.Mathlib.Omega.{arith}
use native.Mathlib.Numerals.{add-one}
use Rattle.words.proofs.Writing.{put_none, put_two}
use Rattle.text.specs.Lines.{lines_to}
use Rattle.plate_text.proofs.put_lines.Goals as goal

pub loop-v-init : goal.loop-v-init
unfolding lines_to
loop-v-init g c = put_none 0 _

pub loop-v-preserved : goal.loop-v-preserved
unfolding lines_to
loop-v-preserved g c =
    let one = rw c.grade.ensures at c.push_gain.ensures in
    rw add-one (put_two c.loop-v.invariant one refl (omega arith))
