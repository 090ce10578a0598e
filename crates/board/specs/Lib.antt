-- What the calls answer and leave. Stations, runs and words are `board_air`'s.
pub mod Calls
