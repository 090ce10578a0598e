-- Public are the laws of the definitions: walking along a text (`Laws`), and what changes nothing in its words (`Spellings`). The others serve the proofs here:
-- runs up to a byte (`Runs`), and where words start (`Starts`).
pub mod Laws
pub mod Spellings
mod Runs
mod Starts
