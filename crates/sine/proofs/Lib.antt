-- Public is what crates above cite: the laws (`Laws`) and the worked values (`Edges`).
-- The others are of this crate: the quadrants (`Quadrants`), the terms and their sums (`Terms`), the error of 8 units (`SeriesError`, `SeriesRange`, `Error`), signs and bounds of every float (`SignsAndBounds`), and where the answer is a NaN (`Domain`).
pub mod Laws
pub mod Edges
mod Quadrants
mod Terms
mod SeriesError
mod SeriesRange
mod Error
mod SignsAndBounds
mod Domain
