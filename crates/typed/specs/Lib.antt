-- The definitions that contracts cite: one file for each subject.
pub mod Typed
pub mod Inner
