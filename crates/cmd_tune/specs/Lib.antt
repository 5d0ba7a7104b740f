pub mod Tuned
pub mod TuneCommand
pub mod Working
