pub mod Seen
pub mod Passing
pub mod Laws
