pub mod DispersedPackets
pub mod InnerBytes
pub mod Commands
pub mod Coding
pub mod Steps
pub mod Inner
