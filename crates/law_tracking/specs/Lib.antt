pub mod Tracked
pub mod Sizes
pub mod Steady
