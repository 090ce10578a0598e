-- `search::gainorm::sweep` meets its contract.
use Rattle.std.proofs.Common.{◌≡◌, ◌+◌}
use Rattle.search.specs.Turns.{turns, sweep_turn}
use Rattle.search.proofs.gainorm.sweep.Given as goal

abbrev pub invariant-loop-i : goal.invariant-loop-i
invariant-loop-i l =
    (l.out ≡ turns (sweep_turn l.c.model.now l.c.table.now l.u) l.initial.out l.i) × (l.out.tally.readings ≡ l.initial.out.tally.readings + l.i)
