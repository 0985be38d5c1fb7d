pub mod Examples
pub mod Sides
pub mod Laws
