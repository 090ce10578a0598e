-- The laws of floats that crates above cite: one file for each subject.
pub mod Tests
pub mod Below
pub mod WholeNumbers
pub mod Edges
pub mod Filled
pub mod Negation
pub mod Opposites
pub mod Finite
pub mod Folded
pub mod Unit
pub mod TimesOne
pub mod TimesUnit
pub mod Order
pub mod Bounds
pub mod Halves
