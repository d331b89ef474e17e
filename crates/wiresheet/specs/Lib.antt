-- Plain schemas, the wire sheet, and when two sources are the same.
pub mod Plain
pub mod Sheet
pub mod SameSource
pub mod internal
