-- The definitions that contracts cite.
pub mod Kinds
pub mod Scale
