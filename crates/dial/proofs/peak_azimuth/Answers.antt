-- `dial::peak_azimuth` meets its contract. Assumes nothing.
use Prim.Native.Nat.{◌+◌, ◌-◌}
use mathlib.Core.Path.{◌≡◌, refl}
use native.Mathlib.Omega.{arith}
use Rattle.dial.specs.Scale.{peak_to, peak_azimuth}
use Rattle.dial.proofs.Laws.{peak-more}
use Rattle.dial.proofs.peak_azimuth.Goals as goal

pub loop-v-init : goal.loop-v-init
unfolding peak_to
loop-v-init c = (refl, omega arith)

pub better-best-requires : goal.better-best-requires
better-best-requires c = (omega arith, omega arith)

pub loop-v-preserved : goal.loop-v-preserved
loop-v-preserved c =
    let head = c in
    let v = head.loop-v.v in
    let e : v + 1 - 1 ≡ v = omega arith in
    (rw (e, peak-more head.args.numbers.now v (omega arith), ← head.loop-v.invariant.0) c.better-best.ensures.0, c.better-best.ensures.1)

pub returns : goal.returns
unfolding peak_azimuth
returns c = let e : c.loop-v.v ≡ 360 = omega arith in (rw e at c.loop-v.invariant.0, c.loop-v.invariant.1)
