pub mod Cells
pub mod Calls
pub mod Places
pub mod Copied
pub mod Commands
pub mod WholeRun
