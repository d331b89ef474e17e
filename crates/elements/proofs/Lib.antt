-- The laws of the elements' names.
pub mod Naming
pub mod Laws
