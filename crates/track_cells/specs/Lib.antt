pub mod Sizes
pub mod Gains
pub mod Weighed
