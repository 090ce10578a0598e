-- The definitions that contracts cite, one file for each subject: the source's and document 01's.
pub mod Refusals
pub mod Maximum
