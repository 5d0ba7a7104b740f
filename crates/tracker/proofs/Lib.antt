pub mod Within
pub mod Powers
pub mod Bytes
pub mod Symbols
pub mod Stays
pub mod Steps
