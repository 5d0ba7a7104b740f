pub mod Steps
pub mod Keeps
pub mod Tests
pub mod Lesser
pub mod Middles
pub mod Seen
pub mod Means
pub mod Looks
