pub mod Rescued
pub mod OwnLaws
pub mod RescueCommand
pub mod Working
pub mod Closing
