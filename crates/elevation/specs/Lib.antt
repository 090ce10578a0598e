-- What one elevation gives: `ref_cof` (`refcof`), and of `parmprec` the factors (`factors_at`) and one element's entry (`entry_of`).
pub mod Reflection
pub mod Factors
pub mod Entry
