-- Laws of the escapes.
pub mod Runs
