pub mod Bch
pub mod Syndromes
