pub mod Words
pub mod Turns
pub mod Loops
pub mod Pieces
