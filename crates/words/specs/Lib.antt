-- The definitions that contracts cite: one file for each subject.
pub mod Digits
pub mod Laid
pub mod Writing
pub mod Numbers
pub mod Floats
pub mod Patterns
