-- What set-up makes of its twenty parameters before it searches: limits, constants, whole numbers. All are document 01's or
-- the source's own.
pub mod Literals
pub mod Whole
pub mod Limits
pub mod TypeConstants
