-- No second answer satisfies a promise of an export.
pub mod Unique
