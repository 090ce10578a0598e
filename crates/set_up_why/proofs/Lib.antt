-- The number that is told is set-up's own.
pub mod Untyped
pub mod WhyNumber
