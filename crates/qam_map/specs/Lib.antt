pub mod Points
pub mod Cells
