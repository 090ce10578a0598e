-- The plate row of document 01 (`row_of`), front-to-back as document 02 has it, and what a greatest entry is.
pub mod Row
pub mod Greatest
-- The code's steps, proved equal to those above: a reader of the promises may pass them by.
pub mod Folded
