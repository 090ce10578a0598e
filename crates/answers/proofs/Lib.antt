-- Laws of outcomes, and of the tables of refusals, which the claims cite.
pub mod Outcome
pub mod Table
