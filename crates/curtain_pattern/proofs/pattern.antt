-- What the proofs of `cos_at` and `sin_at` share.
mod ZeroPhase
