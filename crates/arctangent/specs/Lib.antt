-- The definitions that the contracts and the laws cite: document 01's atan.
pub mod Arctangent
