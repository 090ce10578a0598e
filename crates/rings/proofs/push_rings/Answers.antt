-- `rings::push_rings` meets its contract: those so far, and one more. Assumes nothing.
use native.Mathlib.Numerals.{add-one}
use native.Mathlib.Omega.{arith}
use lib.Dec.{lit≤}
use mathlib.Core.Path.{refl}
use Rattle.words.proofs.Writing.{put_none, put_two}
use Rattle.rings.specs.Rings.{rings_to}
use Rattle.rings.proofs.push_rings.Goals as goal

pub loop-k-init : goal.loop-k-init
unfolding rings_to
loop-k-init g c = (lit≤ tt, put_none 0 _)

pub loop-k-preserved : goal.loop-k-preserved
unfolding rings_to
loop-k-preserved g c =
    let one = rw (c.radius.ensures.0, c.bottom-low.ensures.0) at c.push_ring.ensures in
    (omega arith, rw add-one (put_two c.loop-k.invariant.1 one refl (omega arith)))
