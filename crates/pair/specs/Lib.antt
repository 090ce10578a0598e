-- The definitions that contracts cite: one file for each subject.
pub mod Drawn
pub mod Told
pub mod Pair
