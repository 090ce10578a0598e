-- Laws that other crates cite, and what the proofs of several modules share; what those of one module share stands in its folder.
pub mod Edges
pub mod TableSum
pub mod Granted
