pub mod Writing
pub mod Manner
pub mod Cases
pub mod Misses
