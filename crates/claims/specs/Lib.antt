-- The claims, one file for each.
pub mod Tables
pub mod Refusals
pub mod Demand1
pub mod MirrorLaw
pub mod CrossedMirror
pub mod Exceptions
pub mod StarredEdges
pub mod Dearest
pub mod PeakIsPeak
