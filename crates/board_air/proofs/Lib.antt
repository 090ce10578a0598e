-- Laws that several proofs cite. Public are those that `board_kept`, `board_anew` and `board` cite.
pub mod Airs
pub mod Bits
pub mod Changes
pub mod Each
pub mod Good
pub mod Moves
pub mod Ranks
pub mod Reading
pub mod Tests
mod Order
mod Slots
