-- Public is what crates above cite (`Laws`). `Angles` is of this crate: the halvings, the series and the angle, the fraction, and oddness.
pub mod Laws
mod Angles
