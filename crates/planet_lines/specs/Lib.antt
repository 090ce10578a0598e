-- The definitions that contracts cite: one file for each subject.
pub mod Losses
pub mod Text
