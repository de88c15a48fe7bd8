pub mod Respond
pub mod Promise
pub mod Best
pub mod Taking
