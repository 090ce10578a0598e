-- Laws of the words, and what the proofs of both modules share.
mod Lengths
mod Places
pub mod RoundTrip
pub mod SetUpWords
