-- The definitions that contracts cite: one file for each subject.
pub mod Least
pub mod Names
pub mod Table
pub mod Limits
