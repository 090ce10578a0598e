-- What document 01's tables hold: `parmprec`'s `ground_of`, by elevation, and `table_of`, by elevation and element.
pub mod Ground
pub mod Table
