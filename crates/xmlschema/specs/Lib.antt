-- Reading a whole document.
pub mod Whole
pub mod Read
pub mod Tracking
pub mod internal
