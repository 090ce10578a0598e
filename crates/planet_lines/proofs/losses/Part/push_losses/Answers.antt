-- `Part::push_losses` meets its contract: the lines so far, and one more. Assumes nothing.
use mathlib.Core.Path.{refl}
use native.Mathlib.Omega.{arith}
use native.Mathlib.Numerals.{add-one}
use Rattle.words.proofs.Writing.{put_none, put_two}
use Rattle.planet_lines.specs.Text.{lines_to}
use Rattle.planet_lines.proofs.losses.Part.push_losses.Goals as goal

pub loop-angle-init : goal.loop-angle-init
unfolding lines_to
loop-angle-init g c = put_none 0 _

pub loop-angle-preserved : goal.loop-angle-preserved
unfolding lines_to
loop-angle-preserved g c =
    let one = rw c.loss_at.ensures.loss at c.push_loss.ensures in
    rw add-one (put_two c.loop-angle.invariant one refl (omega arith))
