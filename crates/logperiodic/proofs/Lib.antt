-- By module, and what crates above cite.
pub mod Laws
