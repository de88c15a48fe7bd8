pub mod Streams
pub mod Frames
pub mod Hex
pub mod Reading
pub mod Laws
