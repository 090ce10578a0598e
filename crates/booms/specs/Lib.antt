-- The arms 5 and 6 of the source's `gainrel`.
pub mod Boom
-- The elements by their lists, which the code is lent.
pub mod Lists
