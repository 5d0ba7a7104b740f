pub mod Steps
pub mod Product
pub mod FieldLaws
pub mod TableRules
