-- Laws that several proofs cite: one file for each subject.
pub mod PairsOfWords
pub mod SetUps
