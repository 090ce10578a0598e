-- The station.
pub mod Dipoles
