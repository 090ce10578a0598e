-- The definitions that contracts cite: one file for each subject.
pub mod Card
pub mod Kind
pub mod Mistake
pub mod Mistakes
pub mod Places
pub mod Reading
pub mod Good
pub mod Inner
