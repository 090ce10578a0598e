-- The definitions that contracts cite.
pub mod Told
pub mod Meaning
