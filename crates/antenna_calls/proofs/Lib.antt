-- Laws: one file for each subject.
pub mod AfterSetUp
