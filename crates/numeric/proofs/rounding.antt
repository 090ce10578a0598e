-- Units and floats: `F` and its order (`Units`, `Laws`), `truncated` (`Truncation`), powers of two, and a number read from its bits (`Decoded`), as m × 2 ^ e (`Normalised`).
mod Units
pub mod Laws
pub mod PowersOfTwo
pub mod Truncation
mod Decoded
pub mod Normalised
