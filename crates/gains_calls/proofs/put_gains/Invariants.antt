-- `put_gains` writes two words a turn.
use mathlib.Core.Path.{◌≡◌}
use Rattle.words.specs.Laid.{laid}
use Rattle.gains_calls.specs.Gains.{gains_to}
use Rattle.gains_calls.proofs.put_gains.Given as goal

abbrev pub invariant-loop-k : goal.invariant-loop-k
invariant-loop-k l = l.out ≡ laid l.initial.out 4 (gains_to l.ant l.table l.giso l.directions l.k)
