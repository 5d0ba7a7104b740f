pub mod Values
pub mod Interleaving
pub mod Delays
pub mod Laws
pub mod Window
