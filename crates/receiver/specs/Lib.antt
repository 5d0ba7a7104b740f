pub mod Words
pub mod Seen
pub mod Standing
pub mod Ready
pub mod Kept
