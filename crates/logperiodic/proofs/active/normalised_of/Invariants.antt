-- `logperiodic::active::normalised_of` meets its contract.
use Rattle.std.proofs.Common.{◌≡◌, replicate}
use Rattle.sine.specs.Sine.{sine}
use Rattle.floats.specs.Ops.{◌⊖◌, ◌⊗◌, ◌⊘◌, +0, at}
use Rattle.logperiodic.specs.Active.{over_active}
use Rattle.logperiodic.proofs.active.normalised_of.Given as goal

abbrev pub invariant-loop-k : goal.invariant-loop-k
invariant-loop-k l = (l.out ≡ over_active l.a.iek l.fi (λ i. at l.fi i ⊖ l.top.fimin) l.k) × (l.rim ≡ over_active l.a.iek (replicate 36 +0) (λ i. at l.ria i ⊘ l.top.riamax ⊘ sine (l.beta ⊗ at l.rl i)) l.k)
