pub mod Totals
pub mod Remade
pub mod Own
