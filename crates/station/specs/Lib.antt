-- The definitions that contracts cite: one file for each subject.
pub mod Header
pub mod Record
pub mod Answers
