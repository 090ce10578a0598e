-- Laws that several proofs cite, in crates above too: one file for each subject.
mod GainLines
pub mod Asked
mod Steps
