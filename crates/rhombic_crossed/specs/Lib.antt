-- The arms 7 to 9 of the source's `gainrel`.
pub mod Rhombic
pub mod Crossed
-- The code's steps, proved equal to the arms above: a reader of the promises may pass them by.
pub mod Complex
pub mod RhombicParts
pub mod CrossedParts
