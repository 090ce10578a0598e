-- `curve::push_pieces` meets its contract: the pieces so far, and one more. Assumes nothing.
use mathlib.Core.Path.{◌≡◌, refl}
use native.Mathlib.Numerals.{add-one}
use native.Mathlib.Omega.{arith}
use Rattle.words.proofs.Writing.{put_none, put_two, at_most}
use Rattle.curve.specs.Curve.{before, pieces_to}
use Rattle.curve.proofs.push_pieces.Goals as goal

pub loop-v-init : goal.loop-v-init
unfolding before pieces_to
loop-v-init g c = (refl, put_none 0 _)

pub loop-v-preserved : goal.loop-v-preserved
unfolding before pieces_to
loop-v-preserved g c =
    let one = rw (c.is_drawn-here.ensures, c.loop-v.invariant.0, c.spot.ensures) at c.push_step.ensures in
    (rw add-one c.is_drawn-here.ensures, rw add-one (put_two c.loop-v.invariant.1 one refl (omega arith)))

pub returns : goal.returns
returns g c = let e : c.loop-v.v ≡ 361 = omega arith in at_most (rw e at c.loop-v.invariant.1) (omega arith)
