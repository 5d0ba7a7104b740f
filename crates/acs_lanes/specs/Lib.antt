pub mod Lanes
pub mod Lanes16
pub mod Phases
pub mod Six
pub mod Totals
