-- What the proofs of `bound` and `handed_on` stand on, and that no second listing satisfies the promise.
mod Whole
mod Answers
pub mod Unique
