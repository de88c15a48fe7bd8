pub mod Overwrites
pub mod Scans
pub mod Spelled
pub mod Answered
pub mod Lines
