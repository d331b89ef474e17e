-- Rules: Printing. Which character encodings are UTF-8 compatible.
pub mod Charset
pub mod internal
