-- The files of the listing: Text defines its lines, Listing the whole text, Characters and Fits have the laws.
-- Document 01, "Block E, whole".
pub mod Text
pub mod Characters
pub mod Listing
pub mod Fits
