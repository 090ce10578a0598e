-- The arms 1 to 4 of the source's `gainrel`.
pub mod Rows
pub mod Dipoles
