-- What the proofs of several modules share; what one module's share stands in its folder.
mod Few
