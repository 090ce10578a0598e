-- Public are the laws that other crates cite: of the first number that passes a test (`Least`), of how long a name is (`Lengths`), of the names and the table (`Laws`).
pub mod Least
pub mod Lengths
pub mod Laws
