pub mod Steps
pub mod Drawn
