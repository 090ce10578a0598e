-- The source's `logparm` (`log_parm`) by its steps: the elements' places, the active ones with their currents, and the curves of `parabol`
-- and `curcal`.
pub mod Literals
pub mod Current
pub mod Geometry
pub mod Active
pub mod LogPeriodic
