-- The fold of the azimuth: the mirrored directions of the whole azimuths.
pub mod Fold
