pub mod Cells
mod Indices
pub mod Parts
pub mod ReadBack
mod Reading
