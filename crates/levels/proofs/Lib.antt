-- Laws of the definitions: one file for each subject.
pub mod Places
pub mod Acceptance
pub mod FirstLevel
pub mod Order
pub mod ExtremesLaw
pub mod Shapes
pub mod Tails
pub mod Counting
pub mod Runs
pub mod Holding
pub mod Reached
pub mod RunLaw
