pub mod Adding
pub mod Turning
pub mod Tables
