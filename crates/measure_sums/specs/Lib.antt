pub mod Comparing
pub mod Tables
pub mod Quick
pub mod Parts
