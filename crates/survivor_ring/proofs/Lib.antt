mod Bytes
pub mod RowSteps
mod Words
mod Walks
mod Traces
mod AllAlive
pub mod Eights
