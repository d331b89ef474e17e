-- Laws of records, searches and accessors.
pub mod Records
pub mod Searching
pub mod Showing
