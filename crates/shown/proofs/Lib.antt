-- What the proofs of several functions cite: answers in order (`InOrder`), arrays filled entry by entry (`Filled`), a plate's steps (`Plates`); and what callers cite, a plate as a row (`Rows`).
mod InOrder
mod Filled
mod Plates
pub mod Rows
