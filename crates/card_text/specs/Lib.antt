-- The definitions that contracts cite: one file for each subject.
pub mod Sentences
pub mod Numbers
