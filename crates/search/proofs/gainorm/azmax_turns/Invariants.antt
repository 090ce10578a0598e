-- `search::gainorm::azmax_turns` meets its contract.
use Rattle.std.proofs.Common.{◌≡◌, ◌+◌, ◌≤◌}
use Rattle.search.specs.Turns.{turns, azmax_turn}
use Rattle.search.proofs.gainorm.azmax_turns.Given as goal

abbrev pub invariant-loop-i : goal.invariant-loop-i
invariant-loop-i l =
    (l.out ≡ turns (azmax_turn l.c.model.now l.c.table.now l.u l.vm) l.initial.out l.i) × (l.out.tally.readings ≡ l.initial.out.tally.readings + l.i) × (l.out.j ≤ l.i)
