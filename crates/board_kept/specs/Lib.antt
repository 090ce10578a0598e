-- `Steps` is of the code's inner steps, and no public contract cites it.
pub mod Steps
