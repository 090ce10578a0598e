-- The direction of the source's `gainrel`.
pub mod Literals
pub mod Azimuth
-- The mirror image of a direction, and the direction behind it, for the mirror laws.
pub mod Mirror
