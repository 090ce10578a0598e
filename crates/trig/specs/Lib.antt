-- What document 01's tables of whole degrees hold: `trig_tables` (`trigfun`).
pub mod Literals
pub mod Trig
