-- Rules: Numbers. The number that an attribute's text says.
pub mod Numbers
