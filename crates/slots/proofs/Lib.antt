-- The laws that crates with a `why` cite.
pub mod Steps
pub mod Lowest
pub mod Numbers
