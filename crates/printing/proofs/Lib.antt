-- The laws of printing that every printing function cites.
pub mod Sequencing
pub mod Writing
pub mod Decimals
pub mod Finishing
pub mod Passing
pub mod Again
