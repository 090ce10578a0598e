-- The definitions that contracts cite: one file for each subject.
pub mod Hundredths
pub mod Decimals
pub mod Raised
