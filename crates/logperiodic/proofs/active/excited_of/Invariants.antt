-- `logperiodic::active::excited_of` meets its contract.
use Rattle.std.proofs.Common.{◌≡◌, replicate}
use Rattle.floats.specs.Ops.{+0, at}
use Rattle.logperiodic.specs.Current.{current_at, phase_at}
use Rattle.logperiodic.specs.Active.{over_active}
use Rattle.logperiodic.proofs.active.excited_of.Given as goal

abbrev pub invariant-loop-k : goal.invariant-loop-k
invariant-loop-k l = (l.ria ≡ over_active l.a.iek (replicate 31 +0) (λ i. current_at l.s l.p (at l.rl i)) l.k) × (l.fi ≡ over_active l.a.iek (replicate 36 +0) (λ i. phase_at l.s (at l.rl i)) l.k)
