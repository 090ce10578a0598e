-- The definitions that contracts cite: one file for each subject.
pub mod Directions
pub mod Remarks
