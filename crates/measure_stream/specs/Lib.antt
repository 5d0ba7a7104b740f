pub mod Passing
pub mod Reports
pub mod Standing
pub mod Laws
