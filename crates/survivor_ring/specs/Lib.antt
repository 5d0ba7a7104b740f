pub mod Survivors
pub mod Rows
pub mod Ring
