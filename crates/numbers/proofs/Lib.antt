-- Trials of the definitions, and laws of the functions.
pub mod Trials
pub mod Numbering
pub mod Laws
