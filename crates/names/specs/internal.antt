-- Internal: what the contracts between functions cite. No customer has to read these.
pub mod Prefix
pub mod Room
