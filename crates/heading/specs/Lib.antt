-- The definitions that contracts cite: one file for each subject.
pub mod Mirrored
pub mod Heading
