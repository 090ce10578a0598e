-- `parmprec`'s rule for types 5 and 6, which fills the flat table. Definitions only.
use Rattle.std.specs.Prelude.{ℕ, zero, suc, cond, List, get_or, Float}
use Rattle.std.specs.Float.{nan}
use Rattle.floats.specs.Ops.{◌⊗◌}
use Rattle.model.specs.Table.{blank_table}
use Rattle.model.specs.Types.{log_periodic}
use Rattle.model.specs.declared.record.Entry.{Entry}
use Rattle.model.specs.declared.record.Model.{Model}
use Rattle.elevation.specs.Reflection.{ref_cof}
use Rattle.elevation.specs.Entry.{with_entry, delta_of, entry_of}

-- element i at elevation u
abbrev pub entry_at : Model → ℕ → ℕ → Entry
entry_at m u i =
    let a0 = get_or m.trig.a u nan in
    let b0 = get_or m.trig.b u nan in
    let delta = delta_of m.iant m.constants.beta a0 in
    entry_of m.iant (ref_cof a0 b0 m.constants.d1 m.constants.e1) (delta ⊗ get_or m.elements.h i nan)

-- the entries of active elements 1 to k of the list put in at elevation u
unfoldable pub row_to : (ℕ → Entry) → List ℕ → ℕ → List Float → ℕ → List Float
row_to entry iek u t zero = t
row_to entry iek u t (suc k) = let i = get_or iek (suc k) 0 in with_entry (row_to entry iek u t k) u i (entry i)

-- and at all elevations below n
unfoldable pub elevations_to : Model → List Float → ℕ → List Float
elevations_to m t zero = t
elevations_to m t (suc u) = row_to (entry_at m u) m.elements.iek u (elevations_to m t u) m.elements.nat

-- the table of a model: entries not filled are +0
unfoldable pub table_of : Model → List Float
table_of m = cond (log_periodic m.iant) (elevations_to m blank_table 91) blank_table
