pub mod Spelling
pub mod WordBits
