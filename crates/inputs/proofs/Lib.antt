-- The law of a buffer that is filled read by read.
pub mod Filling
