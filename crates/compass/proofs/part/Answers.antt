-- `compass::part` meets its contract. Assumes nothing.
use Prim.Native.Nat.{◌^◌, ◌≤◌}
use Rattle.compass.specs.Compass.{part_of}
use Rattle.compass.proofs.Sines.{size-at-most, part-at-most}
use Rattle.compass.proofs.part.Goals as goal
use Rattle.compass.proofs.part.Goals.{After-sine_size}

size : (c : After-sine_size) → c.sine_size.result ≤ 2 ^ 30
size c = rw c.sine_size.ensures (size-at-most c.before.args.v)

pub returns : goal.returns
unfolding part_of
returns c =
    (simp c.sine_size.ensures, part-at-most c.before.args.r c.sine_size.result (size c))
