-- Floats as the definitions above use them: one file for each subject.
pub mod Ops
pub mod Literals
pub mod Decimals
pub mod Ranges
pub mod Filled
pub mod Rounding
pub mod Opposite
