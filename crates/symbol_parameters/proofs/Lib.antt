mod Adding
mod Constant
mod Vectors
pub mod Parts
