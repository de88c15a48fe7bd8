pub mod Box
pub mod Cells
pub mod Ideal
pub mod Machine
pub mod Matching
pub mod Promise
pub mod Shape
pub mod Slack
