-- The code's steps are the rule; type 9 at a direction and at its mirror image.
mod Whole
pub mod Mirror
