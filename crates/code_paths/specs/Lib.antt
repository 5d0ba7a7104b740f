pub mod Small
pub mod Paths
pub mod States
pub mod Streams
pub mod Favoured
pub mod Laws
pub mod Trial
pub mod Uniqueness
