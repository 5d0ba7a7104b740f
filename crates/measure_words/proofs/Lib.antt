mod Bits
mod Sums
mod Counting
