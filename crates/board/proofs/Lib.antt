-- Public is what is promised of every run of calls (`Runs`). The others are laws that several proofs cite.
pub mod Runs
mod Boards
mod Changes
