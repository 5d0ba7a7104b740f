pub mod LeastPlaces
pub mod Bytes
pub mod Searched
pub mod Held
