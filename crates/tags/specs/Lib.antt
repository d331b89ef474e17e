-- Names, attributes and tags.
pub mod Find
pub mod Names
pub mod Attributes
pub mod internal
