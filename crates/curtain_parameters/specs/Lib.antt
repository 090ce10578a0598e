-- The definitions that contracts cite, one file for each subject: the source's excitation and `PATTRN0`.
pub mod Excitation
pub mod Pattrn0
-- the code's steps, proved equal
pub mod DirectionSteps
