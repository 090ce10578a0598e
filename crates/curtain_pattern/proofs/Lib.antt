-- The laws that crates above cite, and what the proofs of several modules share; what one module's share stands in its folder.
pub mod Mirror
pub mod InSteps
pub mod ReadingCount
