-- The laws of the charset test.
pub mod Cleaning
pub mod Laws
