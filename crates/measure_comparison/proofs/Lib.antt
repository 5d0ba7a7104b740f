mod Paths
mod Comparing
mod Standing
