pub mod Places
pub mod Kept
pub mod Around
pub mod Means
