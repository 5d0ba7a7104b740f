pub mod Cells
pub mod Places
pub mod Steps
pub mod Favoured
pub mod Received
pub mod ReadBack
pub mod Joined
mod Vectors
pub mod Errors
pub mod Rounding
pub mod Estimate
pub mod OneCell
pub mod Gains
pub mod Sent
pub mod FlatFiles
mod UpgradedCells
mod Plain
mod OldVectors
