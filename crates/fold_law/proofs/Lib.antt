-- The law, and what an accepted plate and its heading say (`Accepted`).
mod Accepted
pub mod FoldLaw
