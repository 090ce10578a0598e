-- Document 01's search (`gainorm_of`), with a name for each step of its passes, and what a greatest gain is.
pub mod Literals
pub mod Search
pub mod Peaks
-- The code's steps, proved equal to those above: a reader of the promises may pass them by.
pub mod Turns
