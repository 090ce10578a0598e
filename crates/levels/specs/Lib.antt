-- The definitions that contracts cite: one file for each subject.
pub mod Shown
pub mod State
pub mod Run
pub mod Answers
pub mod RunLaw
pub mod ExtremesLaw
