pub mod Counting
pub mod Summing
pub mod Placing
mod Repeating
mod Sending
mod Vectors
