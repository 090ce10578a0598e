-- The definitions that contracts cite.
pub mod Packed
pub mod Lists
