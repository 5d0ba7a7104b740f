pub mod Tracked
pub mod OwnLaws
pub mod TrackCommand
pub mod Working
