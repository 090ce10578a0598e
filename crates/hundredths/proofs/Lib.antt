-- Public is what crates above cite: what hundredths are (`Nearest`), the raised ones that code holds (`Raised`), their text (`Text`), and worked values (`Edges`).
pub mod Nearest
pub mod Raised
pub mod Text
pub mod Edges
mod Integers
mod Span
mod Bits
