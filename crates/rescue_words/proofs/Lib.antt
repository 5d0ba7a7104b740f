mod MarginBytes
mod MarginWords
mod Least
mod Recovered
mod Once
mod Finishing
mod ByteLists
mod Vectors
