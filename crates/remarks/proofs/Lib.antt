-- What the two remarks mean, which others may cite, and what several proofs cite: one file for each subject.
pub mod Lengths
pub mod Limit
pub mod OffBand
mod Steps
