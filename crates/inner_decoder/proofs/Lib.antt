pub mod Kept
pub mod Bounds
pub mod Fresh
pub mod Follow
pub mod Shares
pub mod Stand
pub mod Rows64
pub mod Slices
pub mod Runs
mod ByteBits
