-- Rules: Markup. The five entities; and what decoding has written so far.
pub mod Entities
pub mod internal
