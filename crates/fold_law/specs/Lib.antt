-- The law.
pub mod FoldLaw
