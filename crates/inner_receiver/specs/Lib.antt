pub mod Rooms
pub mod Seen
pub mod Kept
pub mod Fed
pub mod Branches
pub mod Framing
