-- Laws of tags: what this crate's proofs cite, and what the crates above need.
pub mod Searching
pub mod Naming
mod Parting
pub mod Tagging
mod Placeless
mod Looking
mod Stopping
pub mod Ranges
mod Knowing
mod Matching
pub mod Coding
mod Declaring
mod Dropping
pub mod Begun
mod Laws
mod Trials
