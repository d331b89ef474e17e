-- The index over a schema's items, and what a name is declared as.
pub mod Blank
pub mod Declarations
pub mod Children
pub mod internal
