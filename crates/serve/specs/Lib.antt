pub mod Served
pub mod Form
pub mod Serving
pub mod Laws
