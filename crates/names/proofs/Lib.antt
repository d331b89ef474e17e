-- Laws of the conversions and of the entries.
pub mod Storing
pub mod Singular
pub mod Cutting
pub mod Entering
pub mod Counting
