-- Laws of words: what this crate's proofs cite, and what the crates above need.
pub mod Digits
pub mod Copying
pub mod Lanes
pub mod Finding
pub mod Standing
pub mod Pairing
pub mod Alike
pub mod Laws
