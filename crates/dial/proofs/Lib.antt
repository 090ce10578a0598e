-- Public is what other crates cite, and what readers look for.
pub mod Codes
pub mod Laws
pub mod OtherKinds
