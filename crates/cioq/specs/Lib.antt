pub mod State
pub mod Spells
pub mod Arrivals
pub mod Departures
pub mod Choice
pub mod Transfers
pub mod Kept
pub mod Named
