-- Document 02, card 4: the definitions that contracts cite, one file for each subject.
pub mod Days
pub mod Times
pub mod Seasons
pub mod Hours
pub mod Answers
