-- Laws that other crates cite, and what several of them share.
pub mod Outcomes
pub mod Answered
pub mod RowGains
pub mod Mirror
mod CrossedTables
mod NoNumber
pub mod CrossedMirror
pub mod FrontToBack
pub mod Ties
pub mod NoMinusZero
pub mod ReadingCount
mod LevelBounds
pub mod PeakNumbers
