pub mod Answer
pub mod Fault
pub mod Kind
pub mod Lines
pub mod Numbers
pub mod Spelling
pub mod Writing
