pub mod History
pub mod Taken
pub mod Turns
pub mod Turning
