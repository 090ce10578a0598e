-- The definitions that contracts cite: one file for each subject.
pub mod Text
pub mod Back
pub mod Inner
