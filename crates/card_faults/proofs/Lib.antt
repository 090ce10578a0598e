-- How long the sentences of a limit are.
mod Lengths
