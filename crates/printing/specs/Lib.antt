-- Texts in slices: printed at a position, repeated, in decimal, and what an entry's output holds.
pub mod Printed
pub mod Written
pub mod Decimal
pub mod Output
pub mod Repeated
pub mod internal
