pub mod Crowd
pub mod State
pub mod Parts
pub mod Promise
