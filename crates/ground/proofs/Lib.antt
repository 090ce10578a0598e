-- What a reader may ask of the tables: `table_length` and `unfilled` (parmprec/FlatTable: +0 for each element that isn't active).
pub mod Laws
