-- Laws of the index: its hash, chains, links and searches, and the names in order.
pub mod Comparing
pub mod Numbering
pub mod Placing
pub mod Inserting
pub mod Adding
pub mod Fronting
pub mod Hashing
pub mod Linking
pub mod Chaining
pub mod Building
pub mod Seeking
pub mod Finding
pub mod Laws
