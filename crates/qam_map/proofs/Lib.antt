mod Cells
mod Nearest
