-- By module; here the mirror law, which goes through all of them: direction by direction, and over the whole azimuths
-- (`gain_rel-mirror`, with `unslewed`, and `gain_rel_crossed` for type 9, which crates above cite).
mod Mirror
pub mod GainrelMirror
pub mod CrossedMirror
pub mod Slew
