-- `parmprec`'s rule for types 5 and 6 at one elevation and one element. Definitions only.
use Rattle.std.specs.Prelude.{ℕ, cond, List, ◌==◌, slice_set, Float}
use Rattle.sine.specs.Sine.{sine, cosine}
use Rattle.floats.specs.Ops.{◌⊕◌, ◌⊖◌, ◌⊗◌, ◌⊘◌, +0}
use Rattle.floats.specs.Literals.{one, two}
use Rattle.model.specs.Table.{cell}
use Rattle.model.specs.declared.record.Entry.{Entry}
use Rattle.elevation.specs.declared.reflection.Reflection.{Reflection}

-- one element's `ww1` to `ww4` at one elevation, put into the table
unfoldable pub with_entry : List Float → ℕ → ℕ → Entry → List Float
with_entry t u i e =
    slice_set (slice_set (slice_set (slice_set t (cell 0 u i) e.ww1) (cell 1 u i) e.ww2) (cell 2 u i) e.ww3) (cell 3 u i) e.ww4

-- the phase for each unit of height
unfoldable pub delta_of : ℕ → Float → Float → Float
delta_of iant beta a0 = let delta = beta ⊗ two ⊗ a0 in cond (iant == 6) (delta ⊘ two) delta

-- type 5's entry; au and bu are the phase's sine and cosine
unfoldable pub horizontal_entry : Reflection → Float → Float → Entry
horizontal_entry r au bu = record {
  ww1 = one ⊖ r.t1 ⊗ bu ⊖ r.t2 ⊗ au;
  ww2 = r.t1 ⊗ au ⊖ r.t2 ⊗ bu;
  ww3 = one ⊕ r.t3 ⊗ bu ⊕ r.t4 ⊗ au;
  ww4 = r.t4 ⊗ bu ⊖ r.t3 ⊗ au;
}

-- type 6's, which fills two of the four
unfoldable pub vertical_entry : Reflection → Float → Float → Entry
vertical_entry r au bu = record {
  ww1 = (one ⊕ r.t1) ⊗ bu ⊕ r.t2 ⊗ au;
  ww2 = (one ⊖ r.t1) ⊗ au ⊕ r.t2 ⊗ bu;
  ww3 = +0;
  ww4 = +0;
}

unfoldable pub entry_of : ℕ → Reflection → Float → Entry
entry_of iant r phase =
    cond (iant == 6) (vertical_entry r (sine phase) (cosine phase)) (horizontal_entry r (sine phase) (cosine phase))
