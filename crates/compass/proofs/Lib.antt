-- Public is what other crates cite.
pub mod Laws
mod Sines
mod Tests
