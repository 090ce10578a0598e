-- What the proofs of set-up's steps share.
pub mod Accepted
