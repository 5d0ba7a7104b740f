pub mod Draws
pub mod Laws
