-- Internal: what the contracts between functions cite. No customer has to read these.
pub mod Shapes
pub mod Parts
pub mod Bound
pub mod Refusing
