-- Trials of the definitions, and the laws of the functions.
pub mod Trials
pub mod Typing
pub mod Outputs
pub mod Looping
pub mod Lengths
pub mod Longest
pub mod Owning
pub mod Bounding
pub mod Covering
pub mod Sources
pub mod Refusals
pub mod Arrayless
pub mod Generating
pub mod Converting
pub mod Digits
pub mod Opened
