mod Cases
mod Closed
mod Largest
mod Misses
mod Ours
mod Rows
