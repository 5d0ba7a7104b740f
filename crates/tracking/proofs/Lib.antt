pub mod Sums
pub mod Same
pub mod Weights
pub mod Live
pub mod Prefixes
