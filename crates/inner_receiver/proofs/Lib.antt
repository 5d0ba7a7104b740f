mod Rooms
mod Feeding
mod Branching
mod Voting
