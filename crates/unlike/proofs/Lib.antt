-- What is computed of such a station, which crates above do.
pub mod Computed
