pub mod Spelling
pub mod Places
pub mod Agreements
pub mod Sync
pub mod Signalling
