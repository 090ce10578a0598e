-- The definitions that contracts cite: one file for each subject.
pub mod Answers
pub mod Rows
pub mod Coverage
pub mod Least
pub mod Book
pub mod Meaning
-- the code's steps, proved equal
pub mod Stretch
