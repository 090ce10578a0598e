-- What the proofs of the passes share.
pub mod Passes
pub mod Readings
pub mod Rules
pub mod Turns
