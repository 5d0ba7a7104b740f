pub mod Hard
pub mod Bounds
