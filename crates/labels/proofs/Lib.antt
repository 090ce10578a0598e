-- Public is what other crates cite.
pub mod Lengths
