-- The law of the preview, which crates above cite.
pub mod PreviewLaw
