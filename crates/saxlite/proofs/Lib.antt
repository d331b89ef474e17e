-- Laws of the reader: what its own proofs cite, and what the crates above need.
mod Following
mod Integers
mod Finding
mod Silence
mod Telling
mod Reading
mod Trials
