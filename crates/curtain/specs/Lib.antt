-- The definitions that contracts cite, one file for each subject: document 01's and the source's.
pub mod Level
pub mod Answers
pub mod Factor
pub mod Levels
