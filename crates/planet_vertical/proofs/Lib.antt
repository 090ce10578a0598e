-- What several proofs cite, in crates above too: one file for each subject.
pub mod Numbers
