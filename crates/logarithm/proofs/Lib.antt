-- Public is what crates above cite: the laws (`Laws`), the worked values (`Edges`), and for powf the digits (`Digits`), the exponent and the significand (`Parts`), bounds and order (`BoundsAndOrder`).
-- `Domain` is of this crate: where the answer is a NaN.
pub mod Laws
pub mod Edges
pub mod Digits
pub mod Parts
pub mod BoundsAndOrder
mod Domain
