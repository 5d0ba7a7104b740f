pub mod Known
pub mod SuperFrames
pub mod Lines
pub mod Laws
