-- Internal: what the contracts between functions cite. No customer has to read these.
pub mod Index
pub mod Sorted
