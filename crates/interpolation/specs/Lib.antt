-- The source's interpolations of a list of maximum gains.
pub mod Literals
pub mod Interpolation
