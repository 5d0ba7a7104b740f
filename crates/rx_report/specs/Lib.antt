pub mod Text
pub mod Streams
