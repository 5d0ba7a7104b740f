pub mod Votes
pub mod Searching
pub mod OneFrame
pub mod OfBytes
mod Vectors
