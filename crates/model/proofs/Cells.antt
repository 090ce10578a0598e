-- Where the code finds a cell: one elevation is 31 floats, one part 2,821.
use mathlib.Core.Path.{◌≡◌}
use Prim.Native.Nat.{ℕ, ◌+◌, ◌*◌}
use native.Mathlib.Omega.{arith}
use Rattle.model.specs.Table.{cell}

pub cell_0 : (u i : ℕ) → cell 0 u i ≡ u * 31 + i
cell_0 u i = omega arith

pub cell_1 : (u i : ℕ) → cell 1 u i ≡ u * 31 + i + 2821
cell_1 u i = omega arith

pub cell_2 : (u i : ℕ) → cell 2 u i ≡ u * 31 + i + 5642
cell_2 u i = omega arith

pub cell_3 : (u i : ℕ) → cell 3 u i ≡ u * 31 + i + 8463
cell_3 u i = omega arith
