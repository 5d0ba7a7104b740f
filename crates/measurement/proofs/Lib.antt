pub mod Lists
pub mod Staying
pub mod Once
pub mod Begins
mod Vectors
