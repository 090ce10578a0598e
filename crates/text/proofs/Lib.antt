-- Laws of the lines, for the proofs here and in the programs above.
pub mod Laws
