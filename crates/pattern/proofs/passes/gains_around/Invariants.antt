-- `pattern::passes::gains_around` meets its contract.
use mathlib.Core.Path.{◌≡◌}
use Rattle.pattern.specs.Passes.{gains_around}
use Rattle.pattern.proofs.passes.gains_around.Given as goal

abbrev pub invariant-loop-v : goal.invariant-loop-v
invariant-loop-v l = l.out ≡ gains_around l.c.model.now l.c.table.now l.u l.v
