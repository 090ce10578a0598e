-- Laws that several proofs cite, those of `board` among them.
pub mod Nobody
pub mod Writing
