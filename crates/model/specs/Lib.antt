-- What a schema is, and how it lies in its buffers.
pub mod Schema
pub mod Search
pub mod internal
