-- The laws, and one that is longer in a file of its own.
pub mod Laws
mod LevelOnly
