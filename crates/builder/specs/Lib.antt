-- What one event makes of the builder, within which limits.
pub mod Limits
pub mod Builder
pub mod internal
