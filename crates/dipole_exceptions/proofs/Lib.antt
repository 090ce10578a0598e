-- The station computed, which `claims` cites.
pub mod Dipoles
