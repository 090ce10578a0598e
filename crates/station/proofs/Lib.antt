-- Laws that several proofs cite: one file for each subject.
pub mod Finite
pub mod Arrays
pub mod Unpacking
pub mod Headers
pub mod Editions
pub mod Packing
pub mod FieldsRoundTrip
pub mod RoundTrip
pub mod EditionLaws
