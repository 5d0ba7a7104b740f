mod Lanes16
mod Turning
mod Vectors
mod Wrapping
mod Sides
pub mod Near
mod Parts
mod Writing
mod Weighing
mod Fifteenths
