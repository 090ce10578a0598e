-- The definitions that contracts cite.
pub mod Search
pub mod Gains
