-- How answers are packed for C: Packed defines.
pub mod Packed
