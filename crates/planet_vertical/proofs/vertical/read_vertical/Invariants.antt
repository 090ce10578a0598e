-- `planet_vertical::vertical::read_vertical` meets its contract: the numbers so far. Assumes nothing.
use mathlib.Core.Path.{◌≡◌}
use lib.ListN.{length, take}
use Rattle.answers.specs.Outcome.{accepted}
use Rattle.planet_vertical.specs.Directions.{vertical_gain, numbers_to}
use Rattle.planet_vertical.proofs.vertical.read_vertical.Given as goal

abbrev pub invariant-loop-angle : goal.invariant-loop-angle
invariant-loop-angle l =
    (length l.numbers ≡ 181) × (numbers_to (vertical_gain l.q l.table) l.angle ≡ accepted (take l.angle l.numbers))
