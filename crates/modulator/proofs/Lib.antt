pub mod Runs
pub mod Feeding
pub mod Labelling
pub mod Stepping
pub mod Changes
pub mod Lengths
