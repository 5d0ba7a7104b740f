pub mod Loops
pub mod Spread
pub mod Rows
