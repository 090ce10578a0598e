-- The antenna record as words, and back.
pub mod Fields
pub mod Reading
pub mod Held
