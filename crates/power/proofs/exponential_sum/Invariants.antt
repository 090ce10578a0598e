-- `power::exponential_sum` meets its contract. The invariant: the term and the sum are those of the definition before k.
use mathlib.Core.Path.{◌≡◌}
use Prim.Native.Nat.{◌-◌}
use Rattle.power.specs.Power as Spec
use Rattle.power.proofs.exponential_sum.Given as goal

abbrev pub invariant-loop-k : goal.invariant-loop-k
invariant-loop-k l = (l.term ≡ Spec.term l.w (l.k - 1)) × (l.sum ≡ Spec.sum_to l.w (l.k - 1))
