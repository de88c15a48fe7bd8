pub mod Room
pub mod Good
pub mod Loops
pub mod Spelled
pub mod Kept
