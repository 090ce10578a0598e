-- `curtain_parameters::pattrn0::bays_of` meets its contract.
use mathlib.Core.Path.{◌≡◌}
use Prim.Native.Nat.{ℕ}
use Rattle.floats.specs.Ops.{◌⊗◌, count}
use Rattle.floats.specs.Filled.{filled_to}
use Rattle.curtain_parameters.specs.Pattrn0.{bay_phases, bay_ratios}
use Rattle.curtain_parameters.proofs.pattrn0.bays_of.Given as goal

abbrev pub invariant-loop-ib : goal.invariant-loop-ib
invariant-loop-ib l =
    (l.ps ≡ bay_phases l.odrat l.islew l.ib) × (l.r ≡ bay_ratios l.ib) × (l.y ≡ filled_to (λ (i : ℕ). count i ⊗ l.xb) 14 l.ib)
