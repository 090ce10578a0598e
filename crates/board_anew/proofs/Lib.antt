-- Laws that several proofs cite, those of `board` among them.
pub mod Answers
pub mod Keeping
pub mod Parts
pub mod Present
