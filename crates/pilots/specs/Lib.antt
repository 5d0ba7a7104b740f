pub mod Carriers
pub mod Around
pub mod Reference
pub mod Tables
