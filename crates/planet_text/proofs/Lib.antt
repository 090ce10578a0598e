-- What several proofs cite, `Accepted` and `Ready` in `planet_laws` too: one file for each subject.
pub mod Accepted
mod Printed
pub mod Ready
mod Steps
