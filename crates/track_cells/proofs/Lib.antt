pub mod Sums
pub mod Tables
pub mod Bytes
pub mod Centred
pub mod Corrected
pub mod Digits
pub mod Placed
pub mod Weighing
