-- The edges that crates above cite, and what the definitions say of refusals and of slots.
pub mod Edges
mod Refusals
pub mod Slots
