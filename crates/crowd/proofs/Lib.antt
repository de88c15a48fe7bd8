pub mod Reading
pub mod Bodies
pub mod Within
pub mod Steps
pub mod Written
pub mod Turns
pub mod Shown
pub mod Parts
