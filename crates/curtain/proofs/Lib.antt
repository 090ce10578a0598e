-- The laws that crates above cite, and what the proofs of several modules share; what one module's share stands in its folder.
pub mod Unslewed
pub mod Edges
pub mod FactorAnswers
pub mod FactorReadings
pub mod Directions
mod InOrder
