pub mod Existing
pub mod Whole
pub mod Printing
pub mod Commands
pub mod WholeRun
pub mod Feeding
