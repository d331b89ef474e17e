-- Rules: Names. The six conversions of a name, and what an entry for one answers.
pub mod Conversions
pub mod Entry
pub mod Converted
pub mod internal
