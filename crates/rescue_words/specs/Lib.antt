pub mod ByteMargins
pub mod Recovery
pub mod Rescued
pub mod Carrying
pub mod Recovering
pub mod Running
pub mod Laws
