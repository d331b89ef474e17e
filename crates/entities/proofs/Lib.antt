-- Laws of entities: what this crate's proofs cite, and what the crates above need.
pub mod Decoding
pub mod Copying
mod Laws
mod Trials
