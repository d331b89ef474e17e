-- The laws of what is printed and written, and trials of a refusal's line.
pub mod Lines
pub mod Replying
pub mod Writing
mod Trials
