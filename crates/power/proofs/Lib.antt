-- Public is what crates above cite (`Laws`).
-- The others are of this crate: a rounding and a power of two (`Scaling`), and what bounds the code's words (`Words`).
pub mod Laws
mod Scaling
mod Words
