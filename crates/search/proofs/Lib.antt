-- What the search's peak is, which crates above cite, and the order of finite floats.
pub mod Strict
pub mod Peak
