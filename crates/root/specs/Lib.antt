-- The definitions that the contracts and the laws cite: document 01's root of a whole number, and IEEE 754's squareRoot.
pub mod Root
