-- The source's `gainrel` (`gain_rel`): the arms by type, which with its direction stand in the crates below.
pub mod Gainrel
pub mod Passes
