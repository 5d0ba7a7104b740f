pub mod Seen
pub mod Metrics
pub mod Tracking
pub mod Starts
pub mod Events
pub mod Running
pub mod Settling
