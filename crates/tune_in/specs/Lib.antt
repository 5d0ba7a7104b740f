pub mod Places
pub mod Tuning
pub mod Announced
pub mod OfBytes
pub mod LeastPlace
