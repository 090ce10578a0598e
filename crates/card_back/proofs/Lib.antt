-- Public are the laws of the definition (`Laws`). The others serve the proofs here.
mod Rows
mod Lengths
mod Sound
mod Steps
pub mod Laws
