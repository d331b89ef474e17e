-- Rules: Printing. A text as Rust's `{:?}` quotes it.
pub mod Escape
pub mod internal
