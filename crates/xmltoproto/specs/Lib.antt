-- The printed source of a schema, the array refusals and the converter.
pub mod Types
pub mod Composites
pub mod Source
pub mod Arrays
pub mod Generate
pub mod Convert
pub mod internal
