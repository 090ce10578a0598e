-- What `turn` rests on.
mod Remainder
