-- No second answer satisfies a promise of the C interface.
pub mod Unique
