pub mod CellFile
pub mod Symbol
pub mod Announcing
pub mod ReadBack
pub mod State
pub mod Reading
pub mod Words
