-- What the loops over the active elements share.
pub mod Listing
