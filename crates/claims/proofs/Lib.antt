-- The theorems: each has the name of its claim.
pub mod Refusals
pub mod Demand1
pub mod MirrorLaw
pub mod CrossedMirror
pub mod Exceptions
pub mod StarredEdges
pub mod Dearest
pub mod PeakIsPeak
