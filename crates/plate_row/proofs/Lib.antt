-- The laws of a row's greatest entry, which the fold behind goes by and crates above cite.
pub mod Greatest
