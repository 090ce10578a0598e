-- What document 01 says of the antenna record: the types (`type_ok` and the families), the limits of several calls (`in_band`), the counts
-- (`counts_ok`, refusal 6) and the lent table (`cell`, `table_size`).
pub mod Types
pub mod Limits
pub mod Counts
pub mod Table
