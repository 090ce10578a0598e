-- Laws of a step and what follows it (`Then`), which crates above cite too, and the first refusal.
pub mod Steps
pub mod Then
