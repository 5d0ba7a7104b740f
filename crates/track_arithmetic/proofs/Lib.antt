pub mod Products
pub mod Roots
pub mod Halves
pub mod Guesses
pub mod Sorted
