pub mod Exact
pub mod Positions
pub mod Tables
