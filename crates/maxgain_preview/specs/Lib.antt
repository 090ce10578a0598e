-- Document 02, card 2: what the preview is, and the law that it tells what the call does.
pub mod Preview
pub mod PreviewLaw
