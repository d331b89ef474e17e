-- The trials, proved by computation from the definitions.
pub mod Opened
pub mod Proved
