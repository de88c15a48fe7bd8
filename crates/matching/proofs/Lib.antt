pub mod Ask
pub mod Ends
pub mod Heads
pub mod Making
pub mod Least
pub mod Turn
