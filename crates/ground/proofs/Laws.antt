-- What crates above cite.
pub use Rattle.ground.proofs.parmprec.FlatTable.{table_length}
