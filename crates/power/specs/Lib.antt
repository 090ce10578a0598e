-- The definitions that the contracts and the laws cite: document 01's powf, and in `Inner` what the code's inner steps ask of one another.
pub mod Power
pub mod Inner
