-- What crates above cite: of an accepted record (`few_active`, `active_named`, `active_below`), and of the flat table (`blank-length`,
-- and its cells' places, `cell_0` to `cell_3`).
pub mod ActiveElements
pub mod BlankTable
pub mod Cells
pub mod TypeNumbers
