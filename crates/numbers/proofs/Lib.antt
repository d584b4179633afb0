-- The proofs that belong to no single function.
pub mod Unique
