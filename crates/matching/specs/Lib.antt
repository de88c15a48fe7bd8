pub mod Asking
pub mod Loop
pub mod Table
pub mod Making
