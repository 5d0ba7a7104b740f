pub mod Counting
pub mod OneBit
