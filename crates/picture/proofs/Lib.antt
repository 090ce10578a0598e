-- Public is what readers look for.
pub mod Laws
