-- What the proofs of several functions stand on.
mod Parts
mod Tidy
mod Knows
mod Turns
pub mod RefusalLaws
mod Answers
mod Highest
mod Entries
pub mod Unique
