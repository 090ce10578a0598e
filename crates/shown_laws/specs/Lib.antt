-- The law.
pub mod ShownLaw
