-- The definitions that contracts and laws of `board` cite: one file for each subject. `Steps` is of the code's inner steps, and no public contract cites it.
pub mod Stations
pub mod Runs
pub mod Words
pub mod Steps
