pub mod Meaning
pub mod Causes
pub mod Files
pub mod Sources
pub mod Sinks
pub mod Counted
pub mod Memory
