pub mod Seen
pub mod Sums
pub mod Standing
pub mod Steps
pub mod Kept
