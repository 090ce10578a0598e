-- Public are the laws of typed floats (`Laws`) and some that are computed (`Edges`). The others serve the proofs here: long numbers by their words (`Limbs`), a float's size
-- (`Sizes`), a fraction to the nearest whole number (`Nearest`) and to the nearest float (`Near`), numbers with a point (`Pointed`) and how they are read (`Words`, `Enough`),
-- the first number that passes a test (`Search`), and a turn of the code's search (`Tries`).
pub mod Laws
pub mod Edges
mod Limbs
mod Nearest
mod Near
mod Sizes
mod Pointed
mod Words
mod Enough
mod Search
mod Tries
