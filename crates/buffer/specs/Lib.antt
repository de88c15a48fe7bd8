pub mod Rows
pub mod Memory
pub mod Lent
pub mod Leaving
