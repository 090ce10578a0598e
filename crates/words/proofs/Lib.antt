-- Laws of the definitions, for the proofs here and in the crates above: one file for each subject.
pub mod Digits
pub mod Laid
pub mod Writing
pub mod Numbers
pub mod Elements
pub mod Copies
pub mod BitsBack
