-- What the proof of `lower_mhz` uses.
mod Cuts
