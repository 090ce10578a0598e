-- The definitions that contracts cite, one file for each subject: the source's pattern, azimuth and integral.
pub mod Literals
pub mod Azimuth
pub mod Pattern
pub mod Integral
-- the code's steps, proved equal
pub mod PatternSteps
