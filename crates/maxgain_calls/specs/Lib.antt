-- The definitions that contracts cite.
pub mod Maximum
pub mod Preview
