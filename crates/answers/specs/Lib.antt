-- What a call answers, and the numbers of its refusals.
pub mod Outcome
pub mod Refusals
pub mod Table
