pub mod Real
pub mod Laws
