pub mod Sequence_laws
pub mod Register
pub mod Mixed
pub mod Table_bytes
pub mod Back
