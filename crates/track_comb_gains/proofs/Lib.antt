pub mod TapTables
pub mod PlacesOfBits
pub mod Shares
pub mod Fourths
