-- The definitions that contracts cite: one file for each subject. All are document 01's or the source's own, but for
-- `TableSum`, which is document 02's.
pub mod Literals
pub mod TableSum
pub mod SetUp
pub mod Asked
pub mod Gain
