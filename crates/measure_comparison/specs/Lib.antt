pub mod Seen
pub mod Standing
pub mod Kept
pub mod Laws
