pub mod SentBits
pub mod Steps
pub mod Laws
pub mod Periods
