-- What each entry of a pass is: `gainrel`'s answer (`around_at`, `up_at`).
pub mod Entries
