pub mod Symbols
pub mod Numbered
pub mod CostLists
pub mod Reported
pub mod Happened
pub mod Received
pub mod Nothing
mod Base
mod Vectors
mod CostVectors
pub mod Searching
pub mod NearWords
pub mod Fields
pub mod TpsFrames
pub mod Whole
pub mod Beginnings
pub mod Alike
pub mod WholeFiles
