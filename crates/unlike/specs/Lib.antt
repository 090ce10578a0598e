-- What it is to break the mirror law.
pub mod Unlike
