-- What `table_of`'s table holds.
pub mod FlatTable
