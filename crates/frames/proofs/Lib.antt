pub mod Streams
pub mod Frames
pub mod Digits
pub mod Lines
pub mod Reading
