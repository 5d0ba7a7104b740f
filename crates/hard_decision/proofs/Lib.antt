pub mod Nearest
mod Safe
mod Vectors
