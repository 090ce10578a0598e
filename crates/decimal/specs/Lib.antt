-- The definitions that contracts cite: one file for each subject.
pub mod Word
pub mod Reading
pub mod Inner
