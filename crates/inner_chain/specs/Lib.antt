pub mod Labels
pub mod CostPairs
pub mod CostTables
pub mod PairLists
pub mod Tables
pub mod Fours
pub mod StepPairs
