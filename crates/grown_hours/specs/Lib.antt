pub mod Grown
pub mod Promise
