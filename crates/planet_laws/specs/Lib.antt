-- What is proved of an accepted text.
pub mod TextLaw
