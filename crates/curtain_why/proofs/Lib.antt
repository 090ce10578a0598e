-- The number that is told is the station's own.
pub mod WhyNumber
