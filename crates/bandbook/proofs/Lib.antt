-- Laws that several proofs cite: one file for each subject.
pub mod RowWords
pub mod Chunks
pub mod Least
pub mod Steady
pub mod Faults
pub mod GoodBook
pub mod Totals
pub mod OneStation
pub mod Order
pub mod Reported
