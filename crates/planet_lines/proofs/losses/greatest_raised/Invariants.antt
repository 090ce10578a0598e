-- `planet_lines::losses::greatest_raised` meets its contract: the greatest so far. Assumes nothing.
use mathlib.Core.Path.{◌≡◌}
use Rattle.planet_lines.specs.Losses.{top_to}
use Rattle.planet_lines.proofs.losses.greatest_raised.Given as goal

abbrev pub invariant-loop-x : goal.invariant-loop-x
invariant-loop-x l = l.greatest ≡ top_to l.numbers l.x-index
