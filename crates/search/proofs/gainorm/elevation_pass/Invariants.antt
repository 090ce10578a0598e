-- `search::gainorm::elevation_pass` meets its contract.
use Rattle.std.proofs.Common.{◌≡◌, ◌+◌}
use Rattle.search.specs.Turns.{elevations_to}
use Rattle.search.proofs.gainorm.elevation_pass.Given as goal

abbrev pub invariant-loop-i : goal.invariant-loop-i
invariant-loop-i l =
    (l.out ≡ elevations_to l.fn.c.model.now l.fn.c.table.now l.fn.v l.initial.out l.i) × (l.out.tally.readings ≡ l.initial.out.tally.readings + l.i)
