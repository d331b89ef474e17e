-- Laws of texts that this crate's proofs and the crates above cite.
pub mod Choosing
pub mod Pieces
pub mod Comparing
pub mod Among
pub mod Scanning
pub mod Trimming
pub mod Stores
pub mod Laws
