-- Public are the laws that other crates cite (`Laws`, and of a search for a line `Walk` and `Found`), and behind them which cards are accepted (`GoodCard`) and what their stations hold (`Numbers`).
-- The others serve the proofs here: that every station can be written (`Sound`), its bytes (`Laying`), and lists in another order (`Reordered`).
mod Sound
mod Laying
mod Reordered
pub mod Found
pub mod Walk
pub mod GoodCard
pub mod Numbers
pub mod Laws
pub mod Order
