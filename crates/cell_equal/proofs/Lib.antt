pub mod Around
pub mod Nearest
pub mod Quotients
pub mod Walk
pub mod Bytes
pub mod Worked
pub mod Cells
pub mod Pilots
