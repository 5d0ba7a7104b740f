pub mod Division
pub mod Apart
pub mod Rests
pub mod Errors
pub mod Sums
pub mod Corrections
