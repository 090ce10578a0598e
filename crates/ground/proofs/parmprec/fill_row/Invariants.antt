-- `ground::parmprec::fill_row` meets its contract.
use mathlib.Core.Path.{◌≡◌}
use Prim.Native.Nat.{ℕ}
use lib.ListN.{get_or}
use lib.Ieee.{nan}
use Rattle.floats.specs.Ops.{◌⊗◌}
use Rattle.model.specs.Types.{type_number}
use Rattle.elevation.specs.Entry.{entry_of}
use Rattle.ground.specs.Table.{row_to}
use Rattle.ground.proofs.parmprec.fill_row.Given as goal

abbrev pub invariant-loop-k : goal.invariant-loop-k
invariant-loop-k l = (l.t ≡ row_to (λ (i : ℕ). entry_of (type_number l.kind) l.r (l.delta ⊗ get_or l.elements.h i nan)) l.elements.iek l.u l.initial.t l.k)
