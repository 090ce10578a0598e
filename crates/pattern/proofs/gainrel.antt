-- What `gainrel` reads of its table (`gain_rel_table`); a type that is none.
pub mod TableStart
mod Untyped
