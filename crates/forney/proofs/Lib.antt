pub mod ValueLists
pub mod DelayLines
pub mod WindowLines
