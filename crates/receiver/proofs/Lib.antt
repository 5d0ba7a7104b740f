mod Pending
mod Stepping
mod Feeding
