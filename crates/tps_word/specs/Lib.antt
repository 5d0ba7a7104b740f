pub mod Tps
pub mod Vote
pub mod Number
pub mod Signals
