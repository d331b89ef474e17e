-- Reading markup: the events of a document, and the reader that yields them.
pub mod Event
pub mod Events
pub mod Reader
pub mod Fuel
pub mod internal
