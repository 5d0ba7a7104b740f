pub mod Streams
pub mod State
pub mod Wants
pub mod Laws
pub mod Carrying
