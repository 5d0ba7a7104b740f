pub mod Bits
pub mod Counting
pub mod Standing
pub mod Meters
