-- Public are the laws of reading (`Laws`), and what a crate that writes numbers cites too: long numbers by their words (`LongNumbers`), runs of digits (`Runs`), what makes
-- a word a number (`Decimals`). The others serve the proofs here: what digits count (`Places`), a word's sign (`Signs`), and from there to the float's bits: `Words`, `LeadingDigits`, `Sizes`, `Middles`, `Patterns`.
pub mod Laws
mod Divisions
pub mod LongNumbers
pub mod Runs
mod Places
pub mod Decimals
mod Words
mod LeadingDigits
mod Sizes
mod Middles
mod Patterns
