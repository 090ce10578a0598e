-- What the proofs of `elevation_of` and `bay_power_at` share.
mod Tables
