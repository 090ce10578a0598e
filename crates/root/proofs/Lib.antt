-- Public is what crates above cite: the laws (`Laws`), the worked value (`Edges`), and the root of a whole number (`Whole`).
-- The others are of this crate: Newton's steps (`Newton`), the root of a float (`Halves`, `Between`, `Nearest`: the rule; `Cases`, `Shifts`: the code), and `OrderAndSign`.
pub mod Laws
pub mod Edges
pub mod Whole
mod Newton
mod Halves
mod Between
mod Nearest
mod Cases
mod Shifts
mod OrderAndSign
