-- The definitions that contracts cite: one file for each subject.
pub mod Drawn
pub mod Svg
pub mod Output
