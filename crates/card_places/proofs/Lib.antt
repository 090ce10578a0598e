-- Laws that several proofs cite.
mod Numbered
