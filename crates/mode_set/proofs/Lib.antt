pub mod Keeping
mod Pushing
mod Unknown
mod Reasons
mod Periods
mod Planned
mod EntryKeys
mod Stated
mod PlanVectors
