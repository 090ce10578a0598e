-- The definitions that contracts cite: one file for each subject.
pub mod Pieces
pub mod Lines
pub mod Words
pub mod Alike
pub mod Inner
