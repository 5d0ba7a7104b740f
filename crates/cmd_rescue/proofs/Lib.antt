pub mod Laws
pub mod Rescuing
