-- The definitions that the contracts and the laws cite: document 01's binary logarithm, log10 and ln.
pub mod Logarithm
