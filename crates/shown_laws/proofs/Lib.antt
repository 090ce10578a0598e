-- The law, and what it is made of: entries in order (`Entries`).
pub mod Entries
pub mod ShownLaw
