-- Internal: what the contracts between functions cite. No customer has to read these.
pub mod Noting
pub mod Known
pub mod Beginning
pub mod Dropping
