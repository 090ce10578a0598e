-- The law.
pub mod AlwaysDrawn
