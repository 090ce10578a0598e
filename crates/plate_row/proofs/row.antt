-- What is true of a row's outcome.
pub mod Steps
