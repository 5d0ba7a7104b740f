pub mod ModulateCommand
pub mod Seen
pub mod Inputs
pub mod Work
pub mod Reporting
pub mod Steps
