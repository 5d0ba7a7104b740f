pub mod Announcement
pub mod Aligned
pub mod AlignCommand
pub mod Working
